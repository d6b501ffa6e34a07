pub mod Taking
pub mod Keeping
mod Settling
mod Wants
