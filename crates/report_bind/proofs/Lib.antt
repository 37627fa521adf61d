pub mod Kept
pub mod Known
pub mod CallPaths
pub mod Traced
pub mod Rules
pub mod Turns
