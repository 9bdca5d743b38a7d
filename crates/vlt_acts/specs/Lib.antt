pub mod Values
pub mod Acts
pub mod Objects
pub mod Frames
pub mod Hosts
