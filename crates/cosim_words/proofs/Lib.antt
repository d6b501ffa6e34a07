pub mod Devices
pub mod Faulty
pub mod Orders
pub mod Reading
