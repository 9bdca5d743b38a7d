pub mod Named
pub mod OnePoints
pub mod Points
pub mod Own
pub mod Single
pub mod Told
pub mod Said
