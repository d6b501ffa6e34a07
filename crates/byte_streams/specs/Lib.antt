pub mod Prefixes
pub mod Messages
pub mod Talks
