pub mod Entries
pub mod Lists
pub mod Summaries
pub mod Taken
