pub mod Examples
pub mod Editions
