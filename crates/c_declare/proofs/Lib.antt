pub mod Tables
pub mod Declarators
pub mod Turns
