pub mod Laws
pub mod Changing
pub mod Blanks
pub mod Marking
pub mod Promises
