pub mod Objects
pub mod Returned
pub mod Statements
pub mod Opened
