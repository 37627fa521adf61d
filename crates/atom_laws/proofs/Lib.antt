pub mod Serials
pub mod NextVisits
pub mod SameVisits
pub mod VisitLaws
pub mod AtomLaws
pub mod RegionPaths
pub mod ForcedOrder
