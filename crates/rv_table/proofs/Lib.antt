pub mod Masks
pub mod Apart
pub mod Formats
pub mod Back
pub mod Room
pub mod Decoding
