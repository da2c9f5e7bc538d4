pub mod Known
pub mod Order
pub mod SplitValue
