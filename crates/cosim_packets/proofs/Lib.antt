pub mod ListLaws
pub mod PackLaws
pub mod ShowLaws
pub mod PackSteps
