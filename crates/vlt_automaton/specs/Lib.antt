pub mod Words
pub mod Automaton
pub mod Language
