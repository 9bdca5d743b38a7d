pub mod LineWords
pub mod OneLine
pub mod Files
pub mod OfMachine
pub mod OfRuns
