pub mod OneImage
pub mod Words
