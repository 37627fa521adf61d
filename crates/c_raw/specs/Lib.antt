pub mod Tokens
pub mod Exprs
pub mod Simples
pub mod Ops
pub mod Decls
pub mod Conds
pub mod Stmts
pub mod Files
