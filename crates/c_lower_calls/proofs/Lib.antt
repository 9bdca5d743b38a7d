pub mod Ends
mod Rests
