pub mod Examples
pub mod Firsts
pub mod Kept
