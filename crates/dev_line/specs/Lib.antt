pub mod Chunks
pub mod Wires
pub mod Requests
pub mod WireLaws
