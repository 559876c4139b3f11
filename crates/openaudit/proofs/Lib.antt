pub mod Numbers
pub mod Stays
pub mod Theorems
pub mod Example
