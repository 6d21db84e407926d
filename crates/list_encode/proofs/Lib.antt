pub mod Emission
pub mod Encoding
pub mod RoundTrips
pub mod ReadBack
pub mod Cases
