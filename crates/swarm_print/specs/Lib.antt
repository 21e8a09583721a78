pub mod Lines
pub mod Words
pub mod Objects
pub mod Notes
pub mod Refusals
pub mod Lists
pub mod Details
pub mod Texts
