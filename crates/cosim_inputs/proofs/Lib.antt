pub mod Asking
pub mod Limiting
pub mod Reading
pub mod Judged
pub mod Mapping
pub mod Scripted
