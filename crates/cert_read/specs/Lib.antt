pub mod Heads
pub mod Cases
pub mod Declarations
pub mod Certificates
