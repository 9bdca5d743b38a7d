pub mod Seen
pub mod Refusals
