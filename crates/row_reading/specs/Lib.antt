pub mod NumberArrays
pub mod RowReading
