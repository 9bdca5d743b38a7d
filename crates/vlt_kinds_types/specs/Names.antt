pub mod Refusals
pub mod Globals
pub mod Along
