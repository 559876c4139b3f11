pub mod Forest
pub mod Marks
pub mod Names
pub mod Nodes
