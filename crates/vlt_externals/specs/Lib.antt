pub mod Told
pub mod Sent
pub mod Back
pub mod HostAnswers
pub mod Results
pub mod HostCalls
