pub mod Bits
pub mod Sets
pub mod Words
pub mod Joined
