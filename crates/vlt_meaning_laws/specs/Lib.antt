pub mod Keeping
pub mod Ends
pub mod Laws
pub mod Done
pub mod BadAnswers
pub mod Machine
