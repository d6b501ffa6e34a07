pub mod Helping
pub mod Keeping
pub mod Performing
