pub mod Stores
pub mod Walks
pub mod RowWalks
pub mod TableWalks
pub mod TextWalks
pub mod EmptyBook
