pub mod Storing
pub mod Promises
