pub mod Order
pub mod Fields
pub mod Filters
pub mod Opens
pub mod Walk
pub mod Theorems
pub mod OverTheJob
pub mod Example
