pub mod Functions
pub mod Naming
pub mod Laws
pub mod KindedParts
pub mod Types
pub mod Lists
