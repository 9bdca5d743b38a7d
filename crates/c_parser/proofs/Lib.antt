mod Arguments
mod Automata
mod Heads
mod Statements
