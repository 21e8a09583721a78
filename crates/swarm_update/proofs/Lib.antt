mod Answering
mod CleanSlots
mod Clearing
mod Ending
mod Failures
mod Forgetting
pub mod Leaving
mod Marking
mod Passing
mod Renoting
mod Replacements
mod Running
mod StaleBits
mod Steps
mod Walking
