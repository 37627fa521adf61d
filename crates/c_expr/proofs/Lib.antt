pub mod CallSteps
pub mod Chains
pub mod Finds
pub mod OneKind
pub mod Outs
pub mod Steps
pub mod ValueSteps
