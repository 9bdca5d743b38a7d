pub mod Numbers
pub mod Search
pub mod Params
pub mod Holding
pub mod Seen
pub mod Clauses
pub mod Nexts
