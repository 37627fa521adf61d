pub mod Sites
pub mod Calls
pub mod Chains
pub mod Kept
