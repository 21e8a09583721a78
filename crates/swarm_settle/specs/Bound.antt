pub mod Coming
pub mod Laws
pub mod Left
pub mod Measure
