pub mod Fails
pub mod Once
