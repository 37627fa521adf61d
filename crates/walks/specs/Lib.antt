pub mod Walks
pub mod Links
