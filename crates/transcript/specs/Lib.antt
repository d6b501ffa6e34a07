pub mod Texts
pub mod CallLines
pub mod ClosingLines
pub mod Pieces
pub mod Moves
pub mod Sent
