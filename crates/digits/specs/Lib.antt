pub mod Decimal
pub mod Fixed
pub mod Read
