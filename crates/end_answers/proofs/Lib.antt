pub mod Buses
mod Padding
