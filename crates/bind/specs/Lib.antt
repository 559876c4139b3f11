pub mod FlatList
pub mod Binding
pub mod Job
pub mod Reading
