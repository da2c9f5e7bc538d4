pub mod FaultNodes
pub mod StageReplies
pub mod Handed
