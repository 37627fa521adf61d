pub mod Flaws
pub mod Reading
