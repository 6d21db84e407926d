pub mod Encode
pub mod Spell
pub mod Writer
