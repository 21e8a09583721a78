pub mod Inside
pub mod Journal
pub mod Replay
