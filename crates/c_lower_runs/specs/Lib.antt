pub mod SameRuns
pub mod Lowerable
pub mod Laws
pub mod Forms
pub mod Texts
