pub mod StraightFlow
pub mod StraightOps
pub mod StraightPlan
pub mod Strip
pub mod OneAnswer
pub mod Repair
pub mod Repaired
pub mod Replays
pub mod Erasing
pub mod Marks
pub mod Stages
mod Notes
mod Causes
