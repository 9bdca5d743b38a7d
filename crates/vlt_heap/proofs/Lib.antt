pub mod Listed
pub mod Calls
