pub mod Finding
pub mod Forms
pub mod Evaluating
