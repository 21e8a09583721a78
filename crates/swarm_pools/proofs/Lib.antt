mod Bits
mod Parts
mod Taken
mod Pools
