pub mod NodeColumns
