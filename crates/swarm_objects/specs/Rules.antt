pub mod Networks
pub mod Nodes
pub mod Services
pub mod Settings
