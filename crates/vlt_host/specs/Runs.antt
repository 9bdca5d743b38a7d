pub mod Ends
pub mod HeldLine
pub mod Made
