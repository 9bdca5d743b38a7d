pub mod Marks
pub mod Range
