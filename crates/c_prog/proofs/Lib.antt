pub mod Equations
pub mod Examples
pub mod Gets
pub mod NodeLaws
pub mod ValidEquations
