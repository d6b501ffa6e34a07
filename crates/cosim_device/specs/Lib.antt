pub mod Starts
pub mod Ports
pub mod Served
pub mod Making
