mod Seating
mod Stepping
mod Backing
mod Turning
mod Rooming
mod Advancing
mod Quiet
mod Making
mod Reaching
mod Taking
mod Finishing
pub mod OneRun
mod Ready
