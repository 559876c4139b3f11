pub mod Forms
pub mod Paths
pub mod Types
pub mod Jobs
