pub mod Cobs
pub mod Refusal
pub mod TypeTable
pub mod Message
pub mod Packet
