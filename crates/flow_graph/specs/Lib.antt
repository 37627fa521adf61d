pub mod Flow
pub mod Table
pub mod Paths
pub mod Regions
pub mod Within
pub mod Links
pub mod Counts
