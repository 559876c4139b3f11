pub mod Lists
pub mod Job
pub mod Accepted
pub mod Long
pub mod Promises
pub mod Buffer
pub mod Twice
pub mod Files
