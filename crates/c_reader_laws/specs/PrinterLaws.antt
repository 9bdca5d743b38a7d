pub mod ReadAgain
pub mod Sizes
pub mod SizeLaws
