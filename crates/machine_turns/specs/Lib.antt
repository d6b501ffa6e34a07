pub mod Runs
pub mod Ends
pub mod StepLaws
pub mod RunLaws
pub mod EndLaws
