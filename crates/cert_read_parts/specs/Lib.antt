pub mod Maps
pub mod Endings
