pub mod NextVisit
pub mod Violations
