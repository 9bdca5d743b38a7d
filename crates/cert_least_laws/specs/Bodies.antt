pub mod Narrow
pub mod Programs
pub mod Notes
