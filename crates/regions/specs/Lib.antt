pub mod Region
pub mod Between
