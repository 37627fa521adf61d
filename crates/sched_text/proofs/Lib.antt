pub mod Lines
pub mod Numbers
pub mod EntryLines
pub mod Schedules
pub mod Values
pub mod Inputs
