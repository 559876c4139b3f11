pub mod Block
pub mod Run
pub mod Laid
