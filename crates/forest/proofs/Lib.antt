pub mod Stretch
pub mod Drained
pub mod Prefix
pub mod Named
pub mod Marked
pub mod Firsts
pub mod Promises
