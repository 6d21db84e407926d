pub mod Entry
pub mod Lookup
pub mod Meaning
pub mod Steps
