pub mod Placings
pub mod Sequences
pub mod Blocks
