pub mod Shape
pub mod PartLaws
pub mod TreeParts
pub mod Sited
pub mod TreeLaid
