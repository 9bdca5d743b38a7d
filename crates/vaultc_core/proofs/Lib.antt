pub mod Searched
pub mod Linking
pub mod Verifies
pub mod Compiles
