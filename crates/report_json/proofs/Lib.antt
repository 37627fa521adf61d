pub mod Elements
pub mod Related
pub mod ReportKinds
pub mod Unique
