pub mod Reached
pub mod Stepping
