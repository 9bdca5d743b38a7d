pub mod Spans
pub mod Sides
pub mod Statements
