mod Falling
mod Orphans
mod Placing
mod Steps
