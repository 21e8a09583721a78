pub mod AgentApplies
pub mod AgentChanges
pub mod AgentDues
pub mod Unsent
