pub mod KindNumbers
pub mod Kinds
pub mod Files
pub mod Sound
pub mod Packed
pub mod FileCases
