pub mod Lists
pub mod Steps
pub mod Loops
pub mod Entry
pub mod Room
pub mod Whole
pub mod Promises
