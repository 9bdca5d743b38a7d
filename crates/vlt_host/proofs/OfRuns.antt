pub mod Written
pub mod Pieces
pub mod Names
pub mod Progress
pub mod Going
pub mod HeldObjects
pub mod Ending
