pub mod BreakingOff
pub mod Telling
pub mod Told
