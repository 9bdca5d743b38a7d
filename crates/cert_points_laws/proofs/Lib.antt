pub mod Leaf
pub mod Points
pub mod Programs
