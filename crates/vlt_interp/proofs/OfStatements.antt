pub mod Outside
pub mod Asking
pub mod Acting
pub mod Finding
pub mod Entering
pub mod Switching
pub mod Foci
pub mod Closing
