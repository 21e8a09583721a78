pub mod Index
pub mod Inside
pub mod Keys
pub mod Rows
