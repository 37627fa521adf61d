pub mod NodeCounts
pub mod Tables
pub mod Graphs
pub mod Within
pub mod Joins
pub mod Turnings
pub mod Returns
pub mod CountLaws
