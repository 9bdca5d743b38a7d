pub mod Tree
pub mod Reads
pub mod Bodies
pub mod Notes
