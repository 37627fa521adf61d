pub mod Bytes
pub mod Pieces
pub mod Division
pub mod Meaning
pub mod Faults
pub mod Lexed
pub mod Reading
pub mod Steps
