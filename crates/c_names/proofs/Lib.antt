pub mod OneSource
pub mod Accepted
mod Examples
