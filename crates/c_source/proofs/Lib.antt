pub mod LinesRise
pub mod Searches
pub mod KeyOrders
