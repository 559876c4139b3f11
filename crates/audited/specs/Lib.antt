pub mod Said
pub mod Checked
pub mod Files
