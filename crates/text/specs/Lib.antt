pub mod Text
pub mod Form
pub mod Read
pub mod Tokens
pub mod Reading
