pub mod Texts
pub mod Places
pub mod Courses
pub mod GivenRounds
pub mod StarRounds
pub mod Passing
