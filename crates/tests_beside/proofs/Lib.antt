pub mod Bare
pub mod Reached
pub mod Standing
