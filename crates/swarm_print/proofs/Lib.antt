pub mod Floats
mod Labels
