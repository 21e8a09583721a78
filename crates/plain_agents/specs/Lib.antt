pub mod Inside
pub mod OneAgent
