pub mod Writing
pub mod Talking
