pub mod Keys
pub mod Answered
pub mod Instances
pub mod Leading
pub mod Calling
pub mod Choosing
