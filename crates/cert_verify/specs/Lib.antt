pub mod Verified
pub mod Refusals
pub mod Outcomes
pub mod Parts
pub mod Laws
