mod Having
mod Naming
pub mod Sides
