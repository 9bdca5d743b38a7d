pub mod Commands
pub mod Sources
pub mod View
pub mod FilesSeen
