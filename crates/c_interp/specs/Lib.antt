pub mod Halting
pub mod Finding
pub mod Shown
pub mod Calling
pub mod Running
pub mod Start
pub mod Machine
pub mod Runs
