pub mod NodeReading
