pub mod Directives
pub mod Globals
pub mod Heads
pub mod Parsed
pub mod Tops
