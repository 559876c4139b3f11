pub mod Book
pub mod Lookup
pub mod Change
pub mod Marked
