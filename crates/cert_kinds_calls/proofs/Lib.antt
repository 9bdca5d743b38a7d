pub mod Keys
pub mod Operands
