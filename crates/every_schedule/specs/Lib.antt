pub mod Wires
pub mod Mirror
pub mod Schedules
pub mod Counts
pub mod Places
