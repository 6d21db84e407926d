pub mod Meaning
pub mod Keeps
pub mod Admission
pub mod ByBytes
pub mod Tests
