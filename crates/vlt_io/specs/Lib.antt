pub mod Outside
pub mod Parts
pub mod Memory
pub mod Real
pub mod Faults
pub mod Calls
pub mod Log
