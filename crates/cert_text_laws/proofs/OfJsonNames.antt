pub mod Characters
pub mod Uses
pub mod Scopes
pub mod Programs
