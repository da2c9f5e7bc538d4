pub mod StepExact
pub mod Checks
pub mod Handing
pub mod Judged
