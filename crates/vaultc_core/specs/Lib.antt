pub mod Compiled
pub mod Verified
pub mod Linked
