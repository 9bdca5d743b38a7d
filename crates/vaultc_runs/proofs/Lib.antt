pub mod Finished
pub mod Ended
pub mod Own
pub mod RunEnded
pub mod HostEnded
pub mod CEnded
pub mod CReplies
pub mod Lexed
