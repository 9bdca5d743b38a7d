pub mod Pairs
pub mod Held
pub mod Statuses
pub mod Tables
pub mod Cursors
