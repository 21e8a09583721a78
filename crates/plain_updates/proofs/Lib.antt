pub mod UpdateLists
pub mod UpdateSteps
pub mod UpdatesDue
pub mod WaitingPlaces
