pub mod Told
pub mod Driver
pub mod Levels
