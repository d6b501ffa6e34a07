pub mod Firsts
pub mod Ports
pub mod Services
pub mod Machines
pub mod Units
