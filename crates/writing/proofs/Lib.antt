pub mod AnswerLines
pub mod AnswerRows
pub mod Rooms
