pub mod Faulty
pub mod Blames
pub mod Judging
pub mod Extents
pub mod Overs
pub mod Instances
