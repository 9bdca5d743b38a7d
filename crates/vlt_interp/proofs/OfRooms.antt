pub mod Lists
pub mod Wide
pub mod Holding
