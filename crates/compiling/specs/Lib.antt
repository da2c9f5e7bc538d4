pub mod Draft
pub mod Compiled
