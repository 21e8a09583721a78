mod Missing
mod Moving
mod Sweeping
mod Places
mod Noting
mod Answering
mod Joining
