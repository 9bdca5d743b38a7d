pub mod Found
pub mod Parts
pub mod Reversed
pub mod Under
