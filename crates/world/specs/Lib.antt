pub mod Seats
pub mod Stars
pub mod Worlds
