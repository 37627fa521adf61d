pub mod OwnPaths
pub mod RegionEnds
pub mod Returns
