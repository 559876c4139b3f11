pub mod FormOf
pub mod Dots
pub mod Bases
pub mod Reading
pub mod Jobs
pub mod Files
pub mod Editions
pub mod Promises
