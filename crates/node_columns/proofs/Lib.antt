pub mod ColumnNodes
