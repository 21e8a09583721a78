pub mod Boxes
pub mod Ids
pub mod Marks
pub mod Merged
