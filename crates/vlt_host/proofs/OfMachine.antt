pub mod Allowed
pub mod Between
pub mod Seen
pub mod Begun
pub mod Back
pub mod Settled
pub mod Making
pub mod Calls
