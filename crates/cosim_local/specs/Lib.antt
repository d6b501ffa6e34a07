pub mod Ordering
pub mod Results
pub mod Traffic
pub mod Locals
pub mod Steps
