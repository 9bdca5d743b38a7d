pub mod Bits
pub mod Into
pub mod Passing
pub mod Sweeps
