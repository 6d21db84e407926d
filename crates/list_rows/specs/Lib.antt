pub mod Described
pub mod Judge
pub mod Row
pub mod Shape
pub mod Nesting
pub mod Emit
