pub mod Listing
pub mod Enough
pub mod Theorems
pub mod Promises
