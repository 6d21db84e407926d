pub mod Steps
pub mod Runs
pub mod Handing
pub mod Demand3
pub mod Cases
