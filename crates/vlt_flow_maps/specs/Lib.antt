pub mod Passed
pub mod Kept
pub mod Starts
pub mod Unfit
