pub mod Differing
pub mod DueRows
pub mod Left
pub mod Numbers
pub mod Pulls
pub mod Steps
pub mod Worlds
