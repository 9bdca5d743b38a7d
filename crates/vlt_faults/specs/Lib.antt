pub mod Finding
pub mod Judge
