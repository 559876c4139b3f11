pub mod File
pub mod Reading
pub mod Loading
pub mod Lending
