pub mod Puts
pub mod LastDigit
pub mod Measured
