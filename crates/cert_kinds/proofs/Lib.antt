pub mod Tallying
pub mod Declared
pub mod Walks
pub mod Answered
