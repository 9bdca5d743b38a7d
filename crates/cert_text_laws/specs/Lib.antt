pub mod Texts
pub mod Fit
pub mod Weights
pub mod Linked
pub mod JsonNames
