pub mod Followed
pub mod Inside
pub mod Stored
