pub mod Arms
pub mod Made
