pub mod Edges
pub mod Appends
pub mod Modes
