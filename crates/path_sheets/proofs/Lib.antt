pub mod PutLines
pub mod Numbers
pub mod KeptOf
pub mod Writes
pub mod Along
