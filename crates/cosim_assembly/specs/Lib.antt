pub mod Images
pub mod Assemblies
pub mod Listings
