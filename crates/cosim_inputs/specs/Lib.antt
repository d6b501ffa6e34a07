pub mod Configs
pub mod Fresh
pub mod Inputs
pub mod Judging
pub mod Limits
pub mod Masters
pub mod Reads
