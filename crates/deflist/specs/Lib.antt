pub mod Written
pub mod Unpack
pub mod Limited
pub mod Told
pub mod Reading
pub mod Params
pub mod Reached
pub mod Twice
