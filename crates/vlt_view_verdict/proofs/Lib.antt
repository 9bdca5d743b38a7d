pub mod Linked
pub mod Judged
