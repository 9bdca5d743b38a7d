pub mod Beginning
pub mod Lists
pub mod Telling
pub mod Untold
