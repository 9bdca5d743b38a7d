pub mod Annotated
pub mod Held
pub mod Texts
