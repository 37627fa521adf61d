pub mod Each
pub mod Expressions
pub mod Simples
pub mod Declarations
pub mod Statements
pub mod Cells
pub mod Nodes
pub mod Files
