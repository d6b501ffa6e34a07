pub mod ChildLaws
pub mod MemLaws
