pub mod Ones
pub mod Marks
pub mod Passes
