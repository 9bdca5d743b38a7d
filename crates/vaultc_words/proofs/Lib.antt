pub mod Digits
pub mod Numbers
pub mod Settings
pub mod Reading
pub mod FilesHad
