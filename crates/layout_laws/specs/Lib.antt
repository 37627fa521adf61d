pub mod Layout
pub mod TreeLayout
