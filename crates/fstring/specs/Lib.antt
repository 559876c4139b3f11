pub mod Parts
pub mod Words
pub mod Writing
pub mod Reading
pub mod Steps
pub mod Claims
