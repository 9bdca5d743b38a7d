pub mod Readings
pub mod Versions
pub mod Texts
pub mod Bodies
pub mod Places
pub mod Pieces
