pub mod Lines
pub mod Numbers
pub mod Standings
pub mod Steps
pub mod Touches
