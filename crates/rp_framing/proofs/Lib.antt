pub mod SendLaws
pub mod TakeLaws
pub mod ReceiveLaws
