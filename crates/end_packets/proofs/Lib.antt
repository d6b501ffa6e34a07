pub mod Puts
pub mod LaneBytes
pub mod Requests
pub mod Values
