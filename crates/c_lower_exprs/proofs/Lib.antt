pub mod Laws
pub mod NameLaws
pub mod Values
pub mod OperandLoops
