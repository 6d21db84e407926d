pub mod Encode
pub mod Word
