pub mod OwnPaths
pub mod RegionEnds
pub mod Kept
pub mod Returns
