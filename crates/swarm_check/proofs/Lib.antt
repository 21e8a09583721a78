pub mod Alike
pub mod Rules
