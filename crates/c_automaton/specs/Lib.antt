pub mod Refusals
pub mod Automaton
pub mod Ahead
pub mod Laws
