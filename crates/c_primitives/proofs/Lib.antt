pub mod Arguments
pub mod Coming
pub mod Registering
pub mod Assigning
pub mod Answering
pub mod Telling
