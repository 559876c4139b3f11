pub mod Params
pub mod Module
pub mod Job
pub mod Inner
