pub mod Pushing
pub mod Steps
pub mod Complete
pub mod Counts
pub mod Viable
