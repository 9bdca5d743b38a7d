pub mod Places
pub mod Seen
pub mod Before
pub mod Turns
pub mod Declared
pub mod Main
pub mod Ordered
pub mod Within
