pub mod AsciiPieces
pub mod Places
pub mod Reading
pub mod Steps
pub mod Text
