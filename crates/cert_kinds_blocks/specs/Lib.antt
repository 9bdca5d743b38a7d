pub mod Scoped
pub mod Covered
pub mod Flat
pub mod Switches
pub mod Tokens
