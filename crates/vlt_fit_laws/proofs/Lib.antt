pub mod Externals
pub mod Fit
pub mod Sets
pub mod Fields
pub mod NarrowLaws
pub mod Unfit
