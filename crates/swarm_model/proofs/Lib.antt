pub mod Base
pub mod Examples
pub mod Following
pub mod Laws
pub mod Moves
pub mod ReplyLaws
pub mod SettleLaws
pub mod Watching
