pub mod Begins
pub mod GoesOn
pub mod Answered
pub mod FixCount
