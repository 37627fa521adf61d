pub mod Ranges
pub mod CellLemmas
pub mod Prints
