pub mod Tested
pub mod Answered
