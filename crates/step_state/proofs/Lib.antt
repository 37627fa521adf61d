pub mod Tops
pub mod Filled
pub mod Leads
pub mod PartEquations
pub mod Examples
pub mod ItemExamples
