pub mod Lanes
pub mod Steps
pub mod Scripts
pub mod Masters
pub mod MasterLaws
