-- The canonical text of a program.
pub mod Pieces
pub mod Names
pub mod Expressions
pub mod Acts
pub mod Operations
pub mod Statements
pub mod Canonical
