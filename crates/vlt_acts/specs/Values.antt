pub mod Parts
pub mod Filled
pub mod Shown
pub mod Pushed
pub mod Asked
