pub mod Calls
pub mod Inside
pub mod Watchings
pub mod Worlds
