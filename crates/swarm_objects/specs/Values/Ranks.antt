-- The numbers of the states.
use Rattle.std.specs.Prelude.{ℕ}
use Rattle.swarm_objects.specs.declared.tasks.Desired.{Desired}
use Rattle.swarm_objects.specs.declared.tasks.Desired.TheVariants as desired
use Rattle.swarm_objects.specs.declared.tasks.TaskState.{TaskState}
use Rattle.swarm_objects.specs.declared.tasks.TaskState.TheVariants as state

abbrev pub rank : TaskState → ℕ
rank state.New = 0
rank state.Pending = 64
rank state.Assigned = 192
rank state.Accepted = 256
rank state.Preparing = 320
rank state.Ready = 384
rank state.Starting = 448
rank state.Running = 512
rank state.Complete = 576
rank state.Shutdown = 640
rank state.Failed = 704
rank state.Rejected = 768
rank state.Remove = 800
rank state.Orphaned = 832

-- what is wanted, by the number of its state
abbrev pub desired_rank : Desired → ℕ
desired_rank desired.Ready = rank state.Ready
desired_rank desired.Running = rank state.Running
desired_rank desired.Complete = rank state.Complete
desired_rank desired.Shutdown = rank state.Shutdown
desired_rank desired.Remove = rank state.Remove
