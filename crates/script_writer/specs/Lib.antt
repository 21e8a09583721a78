pub mod Behind
pub mod Groups
