pub mod Targets
pub mod Jobs
