pub mod Allocating
pub mod Inside
