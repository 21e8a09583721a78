mod Counted
mod Lone
mod Sent
mod Small
