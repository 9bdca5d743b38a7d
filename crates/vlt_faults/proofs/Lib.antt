pub mod OfFinding
pub mod OfJudge
