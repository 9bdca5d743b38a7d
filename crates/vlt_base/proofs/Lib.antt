pub mod Sets
pub mod Surely
