mod Olds
mod Steps
