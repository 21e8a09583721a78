pub mod Agents
pub mod Once
pub mod RankDuties
pub mod Ranks
pub mod Sizes
pub mod Updates
pub mod Work
pub mod World
