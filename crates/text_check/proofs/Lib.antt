pub mod Tallies
pub mod Spans
pub mod Counters
pub mod Shapes
pub mod Turns
