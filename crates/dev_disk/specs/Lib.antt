pub mod Works
pub mod Disks
pub mod DiskLaws
pub mod KeepingLaws
