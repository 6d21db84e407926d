pub mod Attach
