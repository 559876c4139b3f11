pub mod Written
pub mod Call
pub mod Job
pub mod Accepted
pub mod Reading
pub mod Twice
