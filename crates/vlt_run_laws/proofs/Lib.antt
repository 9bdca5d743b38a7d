pub mod Instanced
mod Keys
mod OwnNaming
pub mod OwnWhole
pub mod ReachedNaming
pub mod Calls
pub mod Moves
pub mod Blocks
pub mod Simples
pub mod Ending
pub mod Parts
pub mod Enters
pub mod Focuses
pub mod Switches
pub mod ReachedWhole
pub mod Sets
pub mod Clauses
pub mod Operands
pub mod CallsWhole
pub mod Filled
pub mod Loose
pub mod OfHost
