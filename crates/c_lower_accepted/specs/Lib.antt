pub mod Promise
pub mod Accepted
pub mod Texts
