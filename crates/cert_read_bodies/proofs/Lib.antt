pub mod Views
mod Listing
mod Rowed
mod Turned
mod Armed
mod Statements
pub mod Bodies
mod Making
mod Made
mod Formed
