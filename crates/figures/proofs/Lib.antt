pub mod Additions
pub mod Occurring
pub mod Lists
pub mod ByKind
pub mod Windows
pub mod Running
pub mod Totals
pub mod Promises
