pub mod Forms
pub mod Touching
pub mod Padding
pub mod Fronts
pub mod Numbers
pub mod Copies
pub mod Writing
pub mod Pushing
