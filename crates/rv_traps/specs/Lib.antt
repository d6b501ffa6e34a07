pub mod Registers
pub mod Traps
