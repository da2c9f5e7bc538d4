pub mod Refusals
pub mod Stored
