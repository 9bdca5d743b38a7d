pub mod View
pub mod Steps
