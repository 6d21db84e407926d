pub mod Decode
pub mod Fill
pub mod Pieces
pub mod Stage
