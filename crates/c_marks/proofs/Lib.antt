pub mod StripFolds
pub mod Fuses
pub mod AllOps
pub mod Greatest
