pub mod Owned
pub mod Cells
pub mod Made
pub mod Cases
pub mod Taken
