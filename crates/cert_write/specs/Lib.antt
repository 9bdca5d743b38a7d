pub mod Notes
pub mod Texts
pub mod Rows
pub mod JsonLaws
