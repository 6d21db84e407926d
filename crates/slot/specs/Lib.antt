pub mod Slot
pub mod Row
pub mod Rows
