pub mod Sizes
pub mod Passing
