pub mod Choice
pub mod Field
pub mod Over
