pub mod Frames
pub mod Values
pub mod Clause
pub mod Lines
pub mod Permits
