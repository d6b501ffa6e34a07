pub mod Echoes
pub mod Relayed
