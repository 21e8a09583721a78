pub mod Fewer
pub mod Same
