pub mod Added
pub mod Drafted
pub mod OrderBounds
pub mod Placed
pub mod Drafting
pub mod Planned
pub mod CompileReply
