pub mod Ordering
pub mod Alike
pub mod Reading
pub mod Pushing
pub mod Noting
