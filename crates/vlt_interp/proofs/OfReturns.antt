pub mod Silence
pub mod Giving
pub mod Leaving
