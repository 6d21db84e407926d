pub mod Skip
