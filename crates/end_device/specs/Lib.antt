pub mod Talk
pub mod Serving
pub mod Going
