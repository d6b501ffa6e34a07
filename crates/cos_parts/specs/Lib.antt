pub mod Nulls
pub mod AnyDevices
pub mod AnyMasters
