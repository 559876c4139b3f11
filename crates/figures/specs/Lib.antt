pub mod Counting
pub mod Adding
pub mod Reporting
pub mod Walking
