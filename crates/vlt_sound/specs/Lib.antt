pub mod Promise
pub mod Main
pub mod Sizes
pub mod Fields
pub mod Narrow
