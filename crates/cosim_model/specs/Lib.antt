pub mod Values
pub mod Parts
pub mod Order
pub mod Packets
pub mod Streams
pub mod Sessions
pub mod Direct
