pub mod Allocating
pub mod HeldPorts
pub mod Runs
