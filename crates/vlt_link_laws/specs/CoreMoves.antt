pub mod Moves
pub mod Keeps
pub mod Knows
pub mod MoveLaws
