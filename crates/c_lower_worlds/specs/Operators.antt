pub mod Operators
pub mod Codes
pub mod Expressions
pub mod Slots
pub mod Sides
