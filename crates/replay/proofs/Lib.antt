pub mod Scraps
pub mod Sizes
