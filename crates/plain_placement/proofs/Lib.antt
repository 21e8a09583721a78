pub mod AllocatorDue
pub mod AllocatorEffects
pub mod Filtering
pub mod Loading
pub mod Scans
pub mod Scheduling
pub mod Sums
