-- The executors' steps, and the times of their phases.
use Rattle.std.specs.Prelude.{Bool, false, true, nat_le, ◌||◌, nat_lt, if◌then◌else◌, ℕ, ◌==◌, Some, ◌+◌, None, Option, ◌&&◌}
use Rattle.swarm_objects.specs.Values.Ranks.{desired_rank, rank}
use Rattle.swarm_objects.specs.declared.agents.Executor.{Executor}
use Rattle.swarm_objects.specs.declared.tasks.Desired.{Desired}
use Rattle.swarm_objects.specs.declared.tasks.Desired.TheVariants as desired
use Rattle.swarm_objects.specs.declared.tasks.TaskState.{TaskState}
use Rattle.swarm_objects.specs.declared.tasks.TaskState.TheVariants as state
use Rattle.swarm_objects.specs.declared.templates.End.{End}
use Rattle.swarm_objects.specs.declared.templates.End.TheVariants as end

-- the state's case that matters
abbrev pub is_starting : TaskState → Bool
is_starting state.Starting = true
is_starting _ = false

abbrev pub wants_to_stop : Executor → Bool
wants_to_stop e = e.gone || nat_le (desired_rank desired.Shutdown) (desired_rank e.desired)

-- it is to run or to complete, so it needn't wait
abbrev pub is_to_go : Desired → Bool
is_to_go d = nat_lt (desired_rank desired.Ready) (desired_rank d)

abbrev pub rejects : End → Bool
rejects end.Never = false
rejects (end.Exit time code) = false
rejects end.Reject = true

-- the state at the end of the preparation
abbrev pub prepared : End → TaskState
prepared e = if rejects e then state.Rejected else state.Ready

-- the state after the exit with this code
abbrev pub exited : ℕ → TaskState
exited code = if code == 0 then state.Complete else state.Failed

abbrev pub moved : ℕ → TaskState → Executor → Executor
moved clock s e = record e { state = s; since = clock }

-- the stopping begins
abbrev pub stopped_at : ℕ → Executor → Executor
stopped_at clock e = record e { stopping = Some (clock + e.workload.stop); since = clock }

-- the step, once its time has come
abbrev pub at_time : ℕ → ℕ → Executor → Option Executor
at_time clock time after = if nat_le time clock then Some after else None

-- the end of a workload that runs
abbrev pub ending : ℕ → Executor → End → Option Executor
ending clock e end.Never = None
ending clock e (end.Exit time code) = at_time clock (e.since + time) (moved clock (exited code) e)
ending clock e end.Reject = None

-- before it starts
abbrev pub early_step : ℕ → Executor → TaskState → Option Executor
early_step clock e state.Accepted = Some (moved clock state.Preparing e)
early_step clock e state.Preparing =
    at_time clock (e.since + e.workload.prepare) (moved clock (prepared e.workload.end) e)
early_step clock e state.Ready = if is_to_go e.desired then Some (moved clock state.Starting e) else None
early_step clock e _ = None

-- from its start on, neither stopping nor wanting to
abbrev pub late_step : ℕ → Executor → TaskState → Option Executor
late_step clock e state.Starting = at_time clock (e.since + e.workload.start) (moved clock state.Running e)
late_step clock e state.Running = ending clock e e.workload.end
late_step clock e _ = None

-- once stopping, it only stops
abbrev pub late : ℕ → Executor → Option ℕ → Option Executor
late clock e (Some time) = at_time clock time (moved clock state.Shutdown e)
late clock e None = if wants_to_stop e then Some (stopped_at clock e) else late_step clock e e.state

abbrev pub is_early : TaskState → Bool
is_early s = nat_le (rank state.Accepted) (rank s) && nat_le (rank s) (rank state.Ready)

abbrev pub is_late : TaskState → Bool
is_late s = nat_le (rank state.Starting) (rank s) && nat_le (rank s) (rank state.Running)

-- the executor after the step that is due, where one is
abbrev pub executor_step : ℕ → Executor → Option Executor
executor_step clock e =
    if is_early e.state
    then (if wants_to_stop e then Some (moved clock state.Shutdown e) else early_step clock e e.state)
    else if is_late e.state then late clock e e.stopping
    else None

-- Timed phases.

abbrev pub exit_time : Executor → End → Option ℕ
exit_time e end.Never = None
exit_time e (end.Exit time code) = Some (e.since + time)
exit_time e end.Reject = None

-- the time of the phase of an executor that neither stops nor wants to
abbrev pub plain_phase : Executor → TaskState → Option ℕ
plain_phase e state.Preparing = Some (e.since + e.workload.prepare)
plain_phase e state.Starting = Some (e.since + e.workload.start)
plain_phase e state.Running = exit_time e e.workload.end
plain_phase e _ = None

abbrev pub late_phase : Executor → Option ℕ → Option ℕ
late_phase e (Some time) = Some time
late_phase e None = if wants_to_stop e then None else plain_phase e e.state

-- the time of its timed phase, whether or not that is reached; none where it is in no such phase
abbrev pub phase_time : Executor → Option ℕ
phase_time e =
    if is_late e.state then late_phase e e.stopping
    else if wants_to_stop e then None
    else plain_phase e e.state
