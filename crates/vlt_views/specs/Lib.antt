pub mod Hidden
pub mod Views
pub mod Texts
