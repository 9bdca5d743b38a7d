pub mod ManyCases
pub mod Picks
pub mod Parts
