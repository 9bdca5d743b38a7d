pub mod Listed
pub mod Faultless
pub mod Unfitting
