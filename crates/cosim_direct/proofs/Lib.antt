pub mod Coming
pub mod Naming
pub mod RunParts
