mod Confirmed
mod Differing
mod DueSets
mod Messages
mod Together
mod ByNode
