pub mod View
pub mod Running
pub mod Wanted
pub mod Steps
pub mod Operators
pub mod Owners
