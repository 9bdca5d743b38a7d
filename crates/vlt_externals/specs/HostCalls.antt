pub mod Heeded
pub mod Called
