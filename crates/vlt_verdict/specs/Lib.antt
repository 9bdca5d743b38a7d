pub mod Verdicts
pub mod Laws
pub mod Seen
pub mod Unfit
