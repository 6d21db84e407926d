pub mod State
pub mod Turn
pub mod Verdict
pub mod Findings
pub mod Push
pub mod Series
pub mod Whole
pub mod Steps
