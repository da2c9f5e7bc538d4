pub mod Ranges
pub mod Characters
pub mod Classed
pub mod OneClass
pub mod Others
pub mod Bytes
pub mod Coded
