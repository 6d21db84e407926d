pub mod Decode
pub mod Pieces
