pub mod Framing
pub mod Cuts
pub mod Sending
pub mod Receiving
pub mod FrontLaws
pub mod CutLaws
