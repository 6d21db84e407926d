pub mod Check
pub mod Tally
pub mod Answers
