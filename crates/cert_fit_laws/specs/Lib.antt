pub mod Formed
pub mod Annotation
pub mod Programs
pub mod Limits
pub mod Complete
