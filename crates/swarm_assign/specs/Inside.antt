-- Words of private contracts.
pub mod Merging
pub mod Counted
