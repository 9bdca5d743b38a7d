pub mod Accepted
pub mod Placed
pub mod Reports
pub mod Seen
pub mod Writing
