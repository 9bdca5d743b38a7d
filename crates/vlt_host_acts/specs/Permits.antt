pub mod Numbers
pub mod Held
pub mod Hosted
pub mod Arguments
