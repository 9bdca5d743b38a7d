pub mod Blocks
pub mod World
pub mod Values
pub mod Primitives
pub mod Widths
pub mod Run
