pub mod Decls
pub mod Made
pub mod Names
