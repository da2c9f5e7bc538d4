pub mod Ascends
pub mod Outcomes
pub mod Runs
pub mod LinesOn
