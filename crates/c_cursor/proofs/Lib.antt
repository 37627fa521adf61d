pub mod Places
pub mod Exits
pub mod Looks
pub mod Loops
pub mod Same
pub mod Known
