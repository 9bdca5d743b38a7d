pub mod Tables
pub mod Showing
pub mod Calls
