pub mod Got
pub mod Machine
pub mod Bounds
pub mod Laws
pub mod Reached
