pub mod Texts
pub mod Rooms
pub mod Words
pub mod Reading
