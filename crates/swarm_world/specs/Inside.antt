-- Words of private contracts.
pub mod Beginnings
pub mod BesideOps
pub mod Commits
pub mod Kept
pub mod Known
pub mod Looks
pub mod Lookups
pub mod Marks
pub mod Parts
pub mod Records
pub mod Spanned
pub mod Touches
