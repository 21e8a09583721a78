pub mod Ranks
pub mod Texts
