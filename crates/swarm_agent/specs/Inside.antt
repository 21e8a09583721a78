pub mod Lookup
pub mod Named
pub mod Near
pub mod Saying
pub mod Sleeping
pub mod Undo
