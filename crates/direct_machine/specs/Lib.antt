pub mod Wants
pub mod Runs
pub mod Orders
pub mod Outcomes
pub mod Quanta
