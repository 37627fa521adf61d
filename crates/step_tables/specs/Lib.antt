pub mod TreeCode
pub mod Uses
pub mod Adds
pub mod Kept
pub mod Walk
pub mod Functions
pub mod Rows
