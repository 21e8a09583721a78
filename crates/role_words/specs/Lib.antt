pub mod Marks
pub mod Shown
pub mod Slots
pub mod Suspects
pub mod Tallies
pub mod UpdateMarks
pub mod Windows
