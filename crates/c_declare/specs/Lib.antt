pub mod Declaring
pub mod Counting
