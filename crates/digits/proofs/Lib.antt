pub mod Judging
pub mod Decimals
pub mod Fixing
