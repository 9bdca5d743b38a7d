pub mod Sameness
mod Trials
