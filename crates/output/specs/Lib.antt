pub mod Replies
pub mod Sinks
