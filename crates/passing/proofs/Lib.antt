pub mod PassFound
pub mod PassWritten
pub mod PassExact
pub mod Judging
