pub mod RelayNetwork
pub mod RelayTheorem
pub mod RelayPackets
pub mod RelayRun
pub mod RelayStates
pub mod RelayHalted
pub mod LeafRuns
pub mod RelayDone
