pub mod Buses
pub mod Refusals
pub mod Writing
pub mod Bits
pub mod BusLaws
