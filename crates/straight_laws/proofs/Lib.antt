pub mod ValidExamples
pub mod StraightEquations
pub mod StraightBody
pub mod ValidStraight
