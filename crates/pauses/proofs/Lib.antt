pub mod PlaceTests
pub mod NodeRegisters
pub mod NodeTests
pub mod Stretched
pub mod Decided
