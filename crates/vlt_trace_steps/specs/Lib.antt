pub mod Hands
pub mod Does
pub mod Cases
