pub mod Types
pub mod Marks
pub mod Rounds
pub mod Known
pub mod Small
