pub mod Started
pub mod Callable
pub mod Room
pub mod HostMachine
pub mod Called
pub mod Calling
pub mod Made
pub mod Settled
