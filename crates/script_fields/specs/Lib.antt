pub mod Left
pub mod Free
