pub mod Faults
pub mod Tables
pub mod Scopes
pub mod Innermost
