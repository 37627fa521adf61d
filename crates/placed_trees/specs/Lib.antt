pub mod AddOps
pub mod NodesWith
pub mod Placement
pub mod TreeOps
pub mod Coming
