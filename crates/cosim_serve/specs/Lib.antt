pub mod Talks
pub mod Causes
pub mod Names
pub mod Serves
