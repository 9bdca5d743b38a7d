pub mod Least
pub mod TypeRows
pub mod Arguments
