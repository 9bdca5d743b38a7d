pub mod Reading
pub mod Ahead
pub mod Promises
pub mod Bounds
