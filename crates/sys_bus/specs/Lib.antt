pub mod Accesses
pub mod Locals
pub mod Maps
pub mod Systems
pub mod Units
pub mod MasterLaws
pub mod RowLaws
