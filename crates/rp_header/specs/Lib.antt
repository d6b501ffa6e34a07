pub mod Numbers
pub mod Headers
pub mod NumberLaws
pub mod HeaderLaws
