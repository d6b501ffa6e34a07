pub mod Peers
pub mod Opened
pub mod Steps
pub mod Waited
pub mod ChildLaws
