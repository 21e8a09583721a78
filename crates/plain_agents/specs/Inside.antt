-- Words of private contracts.
pub mod News
