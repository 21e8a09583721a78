-- Words of private contracts.
pub mod Filtering
pub mod Loads
pub mod Scheduling
