pub mod Shown
pub mod Listing
pub mod Packed
pub mod Packing
