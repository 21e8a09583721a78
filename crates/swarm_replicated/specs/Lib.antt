-- Words of contracts.
pub mod Inside
pub mod KnownPlaces
