pub mod OfValues
pub mod OfActs
pub mod OfObjects
pub mod OfFrames
pub mod OfHosts
