pub mod Adding
pub mod Dealing
mod Examples
