pub mod FindNodes
pub mod Numberings
