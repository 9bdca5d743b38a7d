pub mod Checks
pub mod Unfit
pub mod Tellings
