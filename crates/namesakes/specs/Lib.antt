pub mod Namesake
pub mod Job
pub mod Reading
pub mod Said
pub mod Example
