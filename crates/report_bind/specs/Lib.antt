pub mod Sites
pub mod Stacks
pub mod Places
pub mod Binds
pub mod Fits
pub mod Found
