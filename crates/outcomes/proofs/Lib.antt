pub mod Asking
pub mod After
pub mod Commands
pub mod Performing
pub mod Writing
