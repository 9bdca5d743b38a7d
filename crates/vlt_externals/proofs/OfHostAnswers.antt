pub mod Members
pub mod Fronts
pub mod Reading
pub mod Instances
pub mod Entries
pub mod Finishing
