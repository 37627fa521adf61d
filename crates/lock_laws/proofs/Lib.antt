pub mod Counts
pub mod OldLocks
pub mod Coverage
pub mod Inside
pub mod Exacts
