pub mod Lifting
pub mod LiftTrails
pub mod RunOps
pub mod Entries
pub mod Around
pub mod OneLift
pub mod Readies
pub mod Repeats
