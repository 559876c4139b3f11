pub mod Opening
pub mod Clauses
pub mod Example
