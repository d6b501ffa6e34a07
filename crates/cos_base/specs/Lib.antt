pub mod Counts
pub mod Links
pub mod Networks
pub mod Octets
pub mod Prefixes
pub mod Sinks
pub mod Stores
