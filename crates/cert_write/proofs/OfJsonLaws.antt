pub mod Readable
pub mod Parts
pub mod Rows
pub mod Programs
