pub mod Founds
pub mod Keeps
pub mod Sweeps
pub mod Parts
pub mod Texts
pub mod Functions
