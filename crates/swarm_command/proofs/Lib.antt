mod Numbered
pub mod Spelled
mod Two
