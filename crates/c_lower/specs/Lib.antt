pub mod Slots
pub mod Guards
pub mod Expressions
pub mod Statements
pub mod Glue
pub mod Lowering
