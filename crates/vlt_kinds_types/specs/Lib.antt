pub mod Files
pub mod Types
pub mod Seen
pub mod Names
pub mod Kinds
