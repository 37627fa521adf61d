pub mod Faults
pub mod Shelves
pub mod Sinks
pub mod Plan
pub mod ShelfInMemory
pub mod SinkState
pub mod SinkInMemory
pub mod Adapters
