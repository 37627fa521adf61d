pub mod Members
pub mod Sites
pub mod Shapes
pub mod Reading
