pub mod Lexemes
pub mod Lexed
pub mod Exprs
pub mod Stmts
pub mod Units
