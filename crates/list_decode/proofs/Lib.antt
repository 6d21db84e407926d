pub mod Writing
pub mod Runs
pub mod Elements
pub mod Judged
pub mod Filling
pub mod Answers
