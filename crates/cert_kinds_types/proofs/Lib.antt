pub mod Smallest
pub mod Zips
pub mod Marked
