pub mod Sums
pub mod Same
pub mod Params
