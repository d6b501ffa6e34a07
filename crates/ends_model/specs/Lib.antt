pub mod DeviceTurn
pub mod MachineTurn
pub mod Answers
pub mod World
pub mod Traffic
pub mod PortTraffic
