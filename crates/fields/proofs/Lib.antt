pub mod Basics
pub mod Fields
pub mod Over
pub mod Spelling
pub mod Coincide
pub mod Promises
