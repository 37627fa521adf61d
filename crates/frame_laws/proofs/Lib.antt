pub mod Each
pub mod Reduced
pub mod Frames
pub mod Change
pub mod Trails
