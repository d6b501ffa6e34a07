pub mod Moments
pub mod Histories
