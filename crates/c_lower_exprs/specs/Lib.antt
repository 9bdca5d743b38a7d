pub mod Tables
pub mod Names
pub mod Scopes
pub mod Coded
