pub mod Plans
pub mod Regions
pub mod NoViolations
