pub mod Answer
pub mod Stages
