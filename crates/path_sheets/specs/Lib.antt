pub mod Put
pub mod BySign
