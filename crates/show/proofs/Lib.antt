pub mod Lines
pub mod Holding
