pub mod Single
pub mod Some
