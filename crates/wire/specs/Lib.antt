pub mod Number
pub mod Area
pub mod Every
pub mod Zero
pub mod Equal
