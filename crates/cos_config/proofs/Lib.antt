mod Entries
mod Texts
mod Members
mod PortReads
mod Entering
