pub mod Stores
pub mod Pieces
pub mod Loops
pub mod Size
pub mod Values
pub mod Legal
pub mod Order
pub mod Cases
