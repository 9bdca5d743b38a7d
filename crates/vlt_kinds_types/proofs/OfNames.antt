pub mod Entries
pub mod Least
pub mod Along
pub mod Loops
