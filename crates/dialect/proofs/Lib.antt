pub mod Within
pub mod Laws
pub mod Editions
pub mod Promises
