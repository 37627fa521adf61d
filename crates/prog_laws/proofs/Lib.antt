pub mod Numbers
pub mod Stripped
pub mod Bare
pub mod Counted
