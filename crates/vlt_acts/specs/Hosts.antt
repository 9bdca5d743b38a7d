pub mod Stops
pub mod Hosts
