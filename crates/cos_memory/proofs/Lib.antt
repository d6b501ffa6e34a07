pub mod CallLaws
pub mod Stored
