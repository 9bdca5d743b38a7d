pub mod LeastNotes
pub mod Laws
pub mod Bodies
