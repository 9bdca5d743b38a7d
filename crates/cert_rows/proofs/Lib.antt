pub mod Codec
pub mod Valued
pub mod Expressed
pub mod Rowed
pub mod Exact
