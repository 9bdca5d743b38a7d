pub mod Lowerable
pub mod Accepted
pub mod FilledParts
pub mod TextLimits
pub mod Texts
pub mod LevelProgram
