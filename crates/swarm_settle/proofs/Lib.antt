pub mod Ahead
pub mod AimSteps
pub mod Aims
mod Asking
pub mod Bound
mod ByAgent
mod ByNode
pub mod Calm
pub mod CleanTasks
pub mod ClosedPlaces
pub mod Closings
pub mod DutyOwners
pub mod Ended
pub mod EndedRuns
pub mod Examples
pub mod FlightTimes
pub mod Fresh
pub mod GlobalPlaces
pub mod Goals
mod GoingOver
pub mod HasClosings
pub mod Held
pub mod HeldTasks
pub mod HomeNodes
pub mod InStep
pub mod JobBounds
pub mod JobPlaces
pub mod JobTemplates
pub mod Known
pub mod KnownCalls
pub mod KnownNodes
pub mod Lawful
mod LeastAmong
pub mod LeastWaits
pub mod Matched
pub mod NearTimes
mod NextAgents
pub mod NothingElse
pub mod Owners
pub mod Phases
pub mod PlaceLists
mod Promised
pub mod QuietAgents
pub mod Replicas
pub mod Rest
pub mod SentLaws
pub mod Served
pub mod ServiceSteps
pub mod Settled
pub mod ShapeCalls
pub mod ShapeDuties
pub mod ShapeLoops
pub mod ShapeWords
pub mod Shapes
mod Standing
pub mod Together
pub mod TogetherCalls
pub mod Unmet
pub mod Versions
mod Waiting
pub mod WellPlaced
pub mod Wholes
