pub mod Keeping
pub mod Showing
pub mod Acting
pub mod Naming
pub mod Focusing
