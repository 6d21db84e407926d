pub mod Published
pub mod Outcome
pub mod Put
