pub mod Braces
pub mod Conds
pub mod Loop
pub mod Outs
pub mod Statements
pub mod Stop
pub mod Tests
