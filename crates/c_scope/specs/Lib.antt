pub mod Views
pub mod Tables
pub mod Places
pub mod Scopes
