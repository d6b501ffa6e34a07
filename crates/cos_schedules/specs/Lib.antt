pub mod Texts
pub mod Schedules
pub mod Courses
pub mod Held
pub mod Stars
pub mod Beginnings
