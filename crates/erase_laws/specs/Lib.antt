pub mod Marked
pub mod Follows
pub mod Runs
pub mod Repairs
