pub mod Limits
pub mod Added
pub mod Text
