pub mod Agent
pub mod Agents
pub mod Steps
pub mod Hearing
pub mod Times
pub mod Inside
