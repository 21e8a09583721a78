mod Beside
mod Closings
mod Replacements
mod Steps
