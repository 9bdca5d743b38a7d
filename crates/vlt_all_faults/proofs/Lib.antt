pub mod Avoided
pub mod Tokens
pub mod Lists
pub mod Bounds
