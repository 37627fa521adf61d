pub mod Adding
pub mod Keeping
pub mod Declared
pub mod Whole
pub mod Places
pub mod Finding
pub mod Numbering
pub mod Lookups
