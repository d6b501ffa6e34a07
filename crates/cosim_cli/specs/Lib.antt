pub mod Usage
pub mod Help
pub mod Ended
pub mod Promises
