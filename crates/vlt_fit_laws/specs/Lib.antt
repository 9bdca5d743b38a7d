pub mod Fit
pub mod Unfit
pub mod Externals
pub mod Texts
