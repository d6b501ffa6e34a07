pub mod Children
pub mod MemChildLists
pub mod MemChildren
pub mod SpawnerCalls
