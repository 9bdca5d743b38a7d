pub mod CallsFile
pub mod Pushed
pub mod Machine
pub mod Runs
