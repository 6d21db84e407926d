pub mod Data
pub mod Given
pub mod Read
