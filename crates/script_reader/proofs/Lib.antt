pub mod Counts
pub mod Oks
