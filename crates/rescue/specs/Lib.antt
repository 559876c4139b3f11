pub mod Good
pub mod Cut
pub mod Job
pub mod Steps
pub mod Claims
