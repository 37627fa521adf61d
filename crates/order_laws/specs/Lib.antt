pub mod Tokens
pub mod OrderRuns
pub mod OrderEnds
pub mod TokenRuns
