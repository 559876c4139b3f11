mod Told
mod FormatTold
mod Places
mod FigureTold
pub mod Promises
pub mod ReadBack
