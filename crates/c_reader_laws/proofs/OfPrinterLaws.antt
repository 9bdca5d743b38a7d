pub mod Numerals
pub mod Pieces
pub mod Plain
pub mod Lexed
pub mod Units
pub mod ReadAgain
pub mod Sizes
