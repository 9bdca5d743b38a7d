pub mod Builds
pub mod Calls
pub mod Seen
pub mod Least
