pub mod Joining
pub mod Passing
pub mod Starting
