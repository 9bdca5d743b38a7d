pub mod Pieces
pub mod Owned
pub mod Apart
pub mod Refusals
pub mod Laws
pub mod Whole
pub mod Seen
pub mod Owners
