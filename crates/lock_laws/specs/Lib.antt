pub mod Guard
pub mod Coverage
pub mod Inside
pub mod Holds
