pub mod Characters
pub mod Lexemes
pub mod Spelling
