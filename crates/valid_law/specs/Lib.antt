pub mod Agrees
pub mod Lexical
