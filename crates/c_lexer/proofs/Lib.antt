pub mod Lexing
pub mod Runs
pub mod Tables
