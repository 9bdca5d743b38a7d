pub mod Places
pub mod Keys
pub mod Bounds
pub mod Heads
pub mod Externals
pub mod Phase
pub mod Seen
