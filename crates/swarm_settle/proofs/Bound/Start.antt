pub mod Coming
pub mod Shares
pub mod Size
