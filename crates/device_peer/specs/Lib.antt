pub mod Speaking
pub mod TurnLaws
pub mod SpeakLaws
