-- Words of private contracts.
pub mod Cuts
pub mod Events
