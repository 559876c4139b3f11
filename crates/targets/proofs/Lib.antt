pub mod Counts
pub mod Assignments
pub mod Files
pub mod Promises
