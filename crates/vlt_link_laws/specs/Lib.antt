pub mod Link
pub mod CoreMoves
pub mod Moves
