pub mod Verdicts
pub mod Views
pub mod Unfit
pub mod Laws
pub mod Link
