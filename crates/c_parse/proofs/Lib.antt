pub mod Directives
pub mod Readings
pub mod Tops
pub mod Whole
