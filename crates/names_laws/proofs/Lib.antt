pub mod Weights
pub mod ExprLines
pub mod StmtLines
pub mod CallLines
pub mod Lined
