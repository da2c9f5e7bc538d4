pub mod Replies
pub mod Tested
pub mod Stored
pub mod Columns
pub mod CodeStored
pub mod Verdicts
