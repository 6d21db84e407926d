pub mod Receive
pub mod Calls
pub mod Events
pub mod ByRow
