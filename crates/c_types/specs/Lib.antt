pub mod Outcome
pub mod Starting
