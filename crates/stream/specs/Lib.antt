pub mod Step
pub mod Series
pub mod Run
