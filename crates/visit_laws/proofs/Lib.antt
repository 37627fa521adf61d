pub mod Unvisited
pub mod OpsBelow
