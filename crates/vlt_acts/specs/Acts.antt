pub mod Acts
pub mod Focus
