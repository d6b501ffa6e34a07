pub mod Fields
pub mod Operands
pub mod Names
pub mod Manual
pub mod Rows
pub mod Named
pub mod Coding
pub mod Decoded
