mod Bounding
mod Choosing
mod Counting
pub mod Keeping
mod Leaving
mod PlaceSteps
mod Reaching
mod Recounting
mod Remembering
mod Services
mod Sights
mod Steps
mod Weighing
