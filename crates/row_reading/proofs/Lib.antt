pub mod NumberLists
pub mod RowLists
pub mod LineReplies
