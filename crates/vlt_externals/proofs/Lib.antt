pub mod Telling
pub mod Going
pub mod Handing
pub mod Coming
pub mod OfHostAnswers
pub mod OfResults
pub mod OfHostCalls
