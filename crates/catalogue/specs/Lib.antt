pub mod Format
pub mod Lookup
