pub mod Readings
pub mod ListedMaps
pub mod Annotating
pub mod Holding
pub mod Narrow
