pub mod Promise
pub mod Calls
pub mod Results
