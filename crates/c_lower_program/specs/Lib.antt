pub mod Counts
pub mod Refusals
pub mod Code
pub mod Glue
