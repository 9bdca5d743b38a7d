pub mod Sets
pub mod Maps
pub mod Views
pub mod Orders
pub mod Entries
