pub mod Loads
pub mod Memory
pub mod Pages
pub mod MemoryLaws
