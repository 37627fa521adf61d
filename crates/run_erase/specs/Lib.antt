pub mod Erases
pub mod Steps
