pub mod Calls
pub mod CallNumbers
pub mod MemLinks
pub mod MemNets
pub mod MemStores
pub mod Peers
pub mod MemLinkLaws
pub mod PeerLaws
