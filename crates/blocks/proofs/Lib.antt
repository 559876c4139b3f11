pub mod Sums
pub mod Laying
pub mod Judging
pub mod Blocks
pub mod Runs
pub mod Goods
pub mod Parts
pub mod Promises
