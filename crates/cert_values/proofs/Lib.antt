pub mod Masks
pub mod Lengths
pub mod Fine
pub mod Each
pub mod OfDeclarations
