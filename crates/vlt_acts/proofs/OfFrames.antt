pub mod Like
pub mod Standing
pub mod Callees
pub mod Naming
pub mod Callers
