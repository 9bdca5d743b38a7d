pub mod Ways
pub mod Search
pub mod Aims
pub mod Unfit
pub mod Parts
pub mod Between
pub mod Shows
