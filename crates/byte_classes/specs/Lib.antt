pub mod Classes
pub mod Codes
