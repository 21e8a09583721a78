pub mod Duties
pub mod Executors
pub mod Fit
pub mod Keeping
pub mod Steps
pub mod World
