pub mod Blocks
pub mod Expressions
pub mod Names
pub mod Whole
