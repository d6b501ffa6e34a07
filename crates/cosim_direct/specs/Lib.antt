pub mod Directs
pub mod Steps
