pub mod Everywhere
pub mod Own
pub mod Nodes
pub mod Roled
pub mod Jobs
pub mod Audited
pub mod Checked
pub mod Files
