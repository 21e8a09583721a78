mod Applying
mod HeldPorts
mod HeldRuns
mod NearGaps
mod Pooled
mod Steps
