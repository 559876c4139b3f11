pub mod Bounds
pub mod Refused
pub mod Walks
pub mod Jobs
pub mod Theorems
pub mod Editions
pub mod Promises
