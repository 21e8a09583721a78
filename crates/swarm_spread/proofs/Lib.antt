mod BestPlaces
mod Branches
mod Counting
mod PlaceLemmas
mod Standing
mod SumLemmas
