pub mod Grammar
pub mod Reader
pub mod Links
pub mod Sheets
pub mod Patterns
pub mod Written
pub mod NamesRead
