pub mod Results
pub mod Popped
