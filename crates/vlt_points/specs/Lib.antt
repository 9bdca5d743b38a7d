pub mod Lines
pub mod Unfit
pub mod Founds
pub mod Keeps
pub mod Writing
