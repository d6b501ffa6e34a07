pub mod Advancing
mod Fronts
mod Ports
mod Pulling
mod Turning
