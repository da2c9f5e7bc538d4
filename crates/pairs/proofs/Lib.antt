pub mod RowPairs
