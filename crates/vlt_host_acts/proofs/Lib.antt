pub mod Called
pub mod Taking
pub mod Texts
pub mod OfPermits
