-- Words of private contracts.
pub mod Attempts
pub mod Done
pub mod Held
pub mod Ops
pub mod Span
pub mod State
pub mod Tracking
