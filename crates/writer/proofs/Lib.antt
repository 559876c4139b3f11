pub mod Laying
pub mod Building
pub mod Jobs
pub mod Enough
pub mod Promises
pub mod RoundTrips
