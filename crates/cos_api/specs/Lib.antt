pub mod CallLists
pub mod Enables
pub mod Lanes
pub mod Levels
