pub mod Spans
pub mod Separated
pub mod Placings
pub mod Runs
pub mod Expressions
pub mod Functions
pub mod Variants
