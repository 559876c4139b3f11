pub mod Writing
pub mod Jobs
pub mod Promises
pub mod Places
pub mod Proper
pub mod Buffer
pub mod Editions
