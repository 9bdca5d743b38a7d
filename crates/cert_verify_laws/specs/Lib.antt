pub mod CodePrograms
pub mod Promises
pub mod Emitted
pub mod Causes
