pub mod Framing
pub mod Keeping
pub mod Parts
pub mod Turning
pub mod Unfitting
pub mod OfNotes
pub mod Stopping
pub mod FromStart
