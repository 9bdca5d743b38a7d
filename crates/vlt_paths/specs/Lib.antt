pub mod Along
pub mod Legs
pub mod Pairs
pub mod Shown
pub mod Numbers
pub mod Comes
pub mod Taken
