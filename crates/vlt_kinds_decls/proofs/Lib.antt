pub mod Known
pub mod Rounds
