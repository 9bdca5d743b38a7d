pub mod Text
pub mod Ends
pub mod HostAnswers
pub mod Given
