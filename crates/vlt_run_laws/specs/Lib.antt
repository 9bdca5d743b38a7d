pub mod Blank
pub mod Named
pub mod Known
pub mod Loose
pub mod Host
