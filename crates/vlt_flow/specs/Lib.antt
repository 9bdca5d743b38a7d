pub mod Walks
pub mod Unfit
pub mod Notes
