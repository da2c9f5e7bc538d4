pub mod Rewrite
pub mod Patterns
pub mod Places
pub mod Path
pub mod Splices
