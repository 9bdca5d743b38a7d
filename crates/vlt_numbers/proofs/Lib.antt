pub mod Spelled
pub mod Cuts
pub mod Reading
pub mod Slices
