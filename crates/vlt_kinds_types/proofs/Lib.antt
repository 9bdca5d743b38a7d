pub mod OfNames
pub mod Sets
