pub mod Branches
