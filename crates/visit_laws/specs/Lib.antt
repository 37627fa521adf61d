pub mod Unvisited
