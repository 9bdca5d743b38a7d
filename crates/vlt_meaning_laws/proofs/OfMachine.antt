pub mod Gots
pub mod Finishing
pub mod Halting
pub mod Theorem
pub mod Depths
pub mod Fitting
pub mod Instanced
