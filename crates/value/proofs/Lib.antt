pub mod Values
pub mod Floats
pub mod Bits
pub mod Bench
pub mod Shorts
