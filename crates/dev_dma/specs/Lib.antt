pub mod Copies
pub mod Dmas
pub mod DmaLaws
