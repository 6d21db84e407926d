pub mod Output
pub mod Digits
