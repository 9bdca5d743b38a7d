pub mod Heads
pub mod Summaries
