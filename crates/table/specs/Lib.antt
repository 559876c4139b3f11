pub mod Numbers
pub mod Answer
pub mod Depth
pub mod Check
pub mod Carrying
pub mod Naming
pub mod Example
