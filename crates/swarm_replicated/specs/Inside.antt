-- Words of private contracts.
pub mod Candidates
pub mod Crowds
pub mod PlaceChanges
pub mod Reach
pub mod Touches
pub mod Weights
