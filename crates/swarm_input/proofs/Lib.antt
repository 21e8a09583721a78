pub mod LinesOf
pub mod Sights
pub mod Cutting
pub mod HeldLines
pub mod Prefixes
pub mod WholeLines
pub mod Counts
