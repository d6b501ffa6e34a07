pub mod Wires
pub mod Talk
pub mod Driving
pub mod Going
