pub mod Blocks
pub mod FlatQueries
pub mod BitSets
pub mod RoundTrip
