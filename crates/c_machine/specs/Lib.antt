pub mod Machine
pub mod Bounds
pub mod Within
pub mod Laws
