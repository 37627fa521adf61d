pub mod Conds
pub mod Decls
pub mod Jumps
pub mod Loops
pub mod Stmts
pub mod Tests
