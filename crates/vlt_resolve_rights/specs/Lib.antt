pub mod Droppable
pub mod News
pub mod Adopts
pub mod Least
