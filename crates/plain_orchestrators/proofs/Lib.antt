pub mod GlobalDue
pub mod JobsDue
pub mod OneDue
pub mod ReplicatedDue
pub mod Restarting
