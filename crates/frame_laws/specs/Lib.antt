pub mod Trail
pub mod Operands
