pub mod Lift
pub mod LiftRun
pub mod Sorted
pub mod Repeated
