pub mod Sets
pub mod Joining
mod Ordered
mod Places
mod Putting
