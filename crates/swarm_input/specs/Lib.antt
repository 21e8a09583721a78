pub mod Held
pub mod LineBuffer
pub mod Lines
pub mod Script
pub mod Streams
