pub mod Bounds
pub mod Decimals
pub mod Fixeds
pub mod Letters
pub mod Floats
pub mod BlobBytes
pub mod ByteDigits
