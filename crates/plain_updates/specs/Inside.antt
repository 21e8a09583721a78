-- Words of private contracts.
pub mod Updating
