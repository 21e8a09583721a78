-- Why a node isn't heard: its session is over, or its report is none.
use Rattle.std.specs.Prelude.{if◌then◌else◌, ℕ, ◌-◌, None, Option, Some, nat_le, not, ◌==◌, Bool, [], ◌∷◌, nat_lt, ◌||◌}
use Rattle.swarm_objects.specs.Refusals.{refuse, first_refusal}
use Rattle.swarm_objects.specs.Agents.Messages.{is_assigned_on}
use Rattle.swarm_objects.specs.Values.Ranks.{rank}
use Rattle.swarm_objects.specs.declared.replies.Refusal.{Refusal}
use Rattle.swarm_objects.specs.declared.replies.Refusal.TheVariants as refusal
use Rattle.swarm_objects.specs.declared.sessions.NodeSession.{NodeSession}
use Rattle.swarm_objects.specs.declared.tasks.Task.{Task}
use Rattle.swarm_objects.specs.declared.tasks.TaskState.{TaskState}
use Rattle.swarm_objects.specs.declared.tasks.TaskState.TheVariants as state

-- the session isn't the node's, or its deadline is reached
abbrev pub not_admitted : ℕ → ℕ → Option NodeSession → Option Refusal
not_admitted clock session None = Some (refusal.InvalidSession None)
not_admitted clock session (Some s) =
    if not (s.session.id == session) then Some (refusal.InvalidSession (Some s.session.id))
    else refuse (nat_le s.session.deadline clock) (refusal.SessionExpired s.session.deadline)

-- the state is none that a node reports
abbrev pub is_no_report : TaskState → Bool
is_no_report s = nat_lt (rank s) (rank state.Accepted) || nat_lt (rank state.Rejected) (rank s)

-- it isn't the node's task, or the state is none that a node reports
abbrev pub bad_report : ℕ → Task → TaskState → Option Refusal
bad_report node x s =
    first_refusal (
    refuse (not (is_assigned_on node x)) (refusal.NotThisNode x.id)
    ∷ refuse (is_no_report s) (refusal.BadState s)
    ∷ [])
