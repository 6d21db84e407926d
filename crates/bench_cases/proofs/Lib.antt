pub mod Starred
pub mod AfterBoth
