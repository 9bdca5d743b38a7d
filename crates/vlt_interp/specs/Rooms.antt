pub mod Rooms
pub mod Start
pub mod Sorts
