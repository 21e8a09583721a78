pub mod Admission
pub mod BestNode
pub mod Constraints
pub mod Filters
pub mod Holdings
pub mod Opening
pub mod Sessions
pub mod Words
