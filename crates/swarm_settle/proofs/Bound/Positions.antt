-- The states and wishes that are left, beside the ranks.
use Rattle.std.proofs.Common.{Bool, arith, false, true, ℕ, ◌+◌, ◌*◌, ◌<◌, ◌≡◌, ◌≤◌}
use Rattle.swarm_settle.specs.Bound.Left.{states_left, wishes_left}
use Rattle.swarm_objects.specs.Kinds.{bit}
use Rattle.swarm_objects.specs.Values.Ranks.{desired_rank, rank}
use Rattle.swarm_objects.specs.declared.tasks.Desired.TheVariants as desired
use Rattle.swarm_objects.specs.declared.tasks.Desired.{Desired}
use Rattle.swarm_objects.specs.declared.tasks.TaskState.TheVariants as state
use Rattle.swarm_objects.specs.declared.tasks.TaskState.{TaskState}

-- The ranks stand 64 apart or more, with one exception.

abbrev LeftAt : ℕ → ℕ → Type 0
LeftAt r n = (832 ≤ r + 64 * n) × (r + 64 * n ≤ 896) × (n ≤ 13)

pub left-at : (s : TaskState) → LeftAt (rank s) (states_left s)
left-at state.New = (omega arith, omega arith, omega arith)
left-at state.Pending = (omega arith, omega arith, omega arith)
left-at state.Assigned = (omega arith, omega arith, omega arith)
left-at state.Accepted = (omega arith, omega arith, omega arith)
left-at state.Preparing = (omega arith, omega arith, omega arith)
left-at state.Ready = (omega arith, omega arith, omega arith)
left-at state.Starting = (omega arith, omega arith, omega arith)
left-at state.Running = (omega arith, omega arith, omega arith)
left-at state.Complete = (omega arith, omega arith, omega arith)
left-at state.Shutdown = (omega arith, omega arith, omega arith)
left-at state.Failed = (omega arith, omega arith, omega arith)
left-at state.Rejected = (omega arith, omega arith, omega arith)
left-at state.Remove = (omega arith, omega arith, omega arith)
left-at state.Orphaned = (omega arith, omega arith, omega arith)

pub states-most : (s : TaskState) → states_left s ≤ 13
states-most s = (left-at s).2

-- a state above another has no more left
pub states-above : (s z : TaskState) → rank s < rank z → states_left z ≤ states_left s
states-above s z up = omega (arith, up, left-at s, left-at z)

-- Wishes.

pub wishes-most : (d : Desired) → wishes_left d ≤ 4
wishes-most desired.Ready = omega arith
wishes-most desired.Running = omega arith
wishes-most desired.Complete = omega arith
wishes-most desired.Shutdown = omega arith
wishes-most desired.Remove = omega arith

pub wishes-kept : (d : Desired) → desired_rank d < desired_rank desired.Remove → 1 ≤ wishes_left d
wishes-kept desired.Ready low = omega arith
wishes-kept desired.Running low = omega arith
wishes-kept desired.Complete low = omega arith
wishes-kept desired.Shutdown low = omega arith
wishes-kept desired.Remove low = omega (arith, low)

pub wishes-live : (d : Desired) → desired_rank d ≤ desired_rank desired.Complete → 2 ≤ wishes_left d
wishes-live desired.Ready low = omega arith
wishes-live desired.Running low = omega arith
wishes-live desired.Complete low = omega arith
wishes-live desired.Shutdown low = omega (arith, low)
wishes-live desired.Remove low = omega (arith, low)

pub wishes-ready : (d : Desired) → desired_rank d ≤ desired_rank desired.Ready → wishes_left d ≡ 4
wishes-ready desired.Ready low = omega arith
wishes-ready desired.Running low = omega (arith, low)
wishes-ready desired.Complete low = omega (arith, low)
wishes-ready desired.Shutdown low = omega (arith, low)
wishes-ready desired.Remove low = omega (arith, low)

pub wishes-above : (d : Desired) → desired_rank desired.Ready < desired_rank d → wishes_left d ≤ 3
wishes-above desired.Ready up = omega (arith, up)
wishes-above desired.Running up = omega arith
wishes-above desired.Complete up = omega arith
wishes-above desired.Shutdown up = omega arith
wishes-above desired.Remove up = omega arith

pub bit-most : (b : Bool) → bit b ≤ 1
bit-most true = omega arith
bit-most false = omega arith
