pub mod Prefixes
pub mod Talks
