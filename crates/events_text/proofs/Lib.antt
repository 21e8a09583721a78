pub mod Merged
pub mod Fronts
pub mod NoFloats
pub mod Examples
