pub mod Simple
pub mod Arms
