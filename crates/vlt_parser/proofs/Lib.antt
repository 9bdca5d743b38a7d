pub mod Sequences
pub mod StateSets
pub mod Declarations
pub mod Places
pub mod Functions
