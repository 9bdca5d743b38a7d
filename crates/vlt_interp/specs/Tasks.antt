pub mod Sizes
pub mod Own
pub mod Halting
pub mod Shown
pub mod Moves
