pub mod Starred
pub mod Demands
