pub mod EncodeStages
pub mod EncodeSteps
pub mod RoundTrips
