pub mod Steps
pub mod Laws
pub mod Bench
pub mod Bytes
