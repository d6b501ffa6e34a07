pub mod Network
pub mod PacketProcesses
pub mod Star
pub mod CalmRun
pub mod StarTalk
pub mod PacketStar
pub mod TellingLinks
pub mod Rounds
