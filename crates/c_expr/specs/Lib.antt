pub mod Finds
pub mod Signs
pub mod Operators
pub mod Parts
pub mod Calls
