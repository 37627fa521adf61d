pub mod Straight
pub mod Form
