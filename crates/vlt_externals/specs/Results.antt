pub mod Stated
pub mod Results
