pub mod Numbers
pub mod Writing
pub mod Stops
pub mod Ends
