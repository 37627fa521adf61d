pub mod Events
pub mod Closings
