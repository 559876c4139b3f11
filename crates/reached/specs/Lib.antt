pub mod Said
pub mod Cases
pub mod Rules
pub mod Refused
pub mod Example
pub mod TwoFiles
