pub mod Places
pub mod Tested
