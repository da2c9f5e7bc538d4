pub mod Rows
pub mod Columnwise
pub mod Rowwise
pub mod Operators
pub mod Shows
pub mod Registers
pub mod Held
