pub mod Shapes
pub mod Jobs
