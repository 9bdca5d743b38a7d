pub mod Frames
pub mod Named
pub mod Entered
pub mod Left
pub mod Naming
