pub mod Steps
pub mod Tests
pub mod Searches
pub mod Changes
