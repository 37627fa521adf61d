pub mod Options
pub mod Forms
pub mod Acts
pub mod FirstTrees
