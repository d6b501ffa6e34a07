pub mod Completing
pub mod Handing
