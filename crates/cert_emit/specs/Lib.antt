pub mod Certificates
pub mod Causes
