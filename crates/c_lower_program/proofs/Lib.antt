pub mod Numbers
pub mod Lengths
pub mod OfCode
pub mod OfGlue
