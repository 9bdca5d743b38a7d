pub mod View
pub mod Refusals
pub mod Parsing
pub mod Following
