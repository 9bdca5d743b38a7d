pub mod Listable
pub mod Listing
