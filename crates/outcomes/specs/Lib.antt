pub mod Asked
pub mod Failures
pub mod Seen
pub mod Outcomes
pub mod Steps
