pub mod Scopes
pub mod Seen
pub mod Touched
pub mod Wanted
pub mod Packed
