pub mod Setting
pub mod Loosing
pub mod Making
pub mod Readings
pub mod Casing
pub mod Giving
