pub mod Stops
pub mod Args
pub mod Done
pub mod Shown
pub mod Start
pub mod Taking
