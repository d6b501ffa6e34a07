pub mod RelayStar
pub mod RelayPackets
