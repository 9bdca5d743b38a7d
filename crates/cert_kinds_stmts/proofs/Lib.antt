pub mod Counts
pub mod Returned
pub mod Owned
