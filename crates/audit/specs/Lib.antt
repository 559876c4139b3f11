pub mod Roles
pub mod Refusals
pub mod Job
