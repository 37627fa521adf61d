pub mod Grammatical
pub mod SpelledAgain
