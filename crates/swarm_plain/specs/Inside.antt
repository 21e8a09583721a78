-- Words of private contracts.
pub mod Lookups
pub mod Merging
pub mod OfPlace
