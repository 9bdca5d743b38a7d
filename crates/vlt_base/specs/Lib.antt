pub mod Limits
pub mod Place
pub mod States
pub mod Parents
pub mod Refusals
pub mod Layout
pub mod Sure
