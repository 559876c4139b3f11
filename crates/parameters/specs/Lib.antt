pub mod Indices
pub mod Params
pub mod Writing
