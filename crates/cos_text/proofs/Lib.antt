pub mod Digits
pub mod HexDigits
pub mod LineSteps
pub mod Puts
pub mod Spelled
