-- Look-ups that may be refused.
use Rattle.std.specs.Prelude.{if◌then◌else◌, ℕ, Err, List, Ok, Result}
use Rattle.swarm_model.specs.Calls.Refusals.{found, on_node}
use Rattle.swarm_objects.specs.Nodes.Admission.{bad_report, not_admitted}
use Rattle.swarm_objects.specs.Nodes.Sessions.{session_of}
use Rattle.swarm_objects.specs.Refusals.{unless}
use Rattle.swarm_objects.specs.Rows.{row_at, task_id}
use Rattle.swarm_objects.specs.World.{Tables}
use Rattle.swarm_objects.specs.declared.ids.Kind.TheVariants as kind
use Rattle.swarm_objects.specs.declared.nodes.Node.{Node}
use Rattle.swarm_objects.specs.declared.replies.Refusal.{Refusal}
use Rattle.swarm_objects.specs.declared.replies.Refusal.TheVariants as refusal
use Rattle.swarm_objects.specs.declared.replies.Wanted.TheVariants as wanted_by
use Rattle.swarm_objects.specs.declared.tasks.Task.{Task}
use Rattle.swarm_objects.specs.declared.tasks.TaskState.{TaskState}

-- the node with this name, whose agent is inside
abbrev pub inside : Tables → List ℕ → Result ℕ Refusal
inside t name = on_node t name (λ n. if n.remote then Err (refusal.WrongKind n.id) else Ok n.id)

-- the node with this name, whose agent is outside
abbrev pub outside : Tables → List ℕ → Result Node Refusal
outside t name = on_node t name (λ n. if n.remote then Ok n else Err (refusal.WrongKind n.id))

-- the node that was found, where this is its live session
abbrev pub if_admitted : Tables → ℕ → Result Node Refusal → Result ℕ Refusal
if_admitted t session (Ok n) = unless (not_admitted t.clock session (session_of t n.id)) n.id
if_admitted t session (Err r) = Err r

-- the remote node with this name, where this is its live session
abbrev pub under_session : Tables → List ℕ → ℕ → Result ℕ Refusal
under_session t name session = if_admitted t session (outside t name)

-- the task with this id, of which the node may report this state
abbrev pub reportable : Tables → ℕ → ℕ → TaskState → Result Task Refusal
reportable t node task s =
    found kind.Task (wanted_by.Id task) (row_at task_id task t.tasks) (λ x. unless (bad_report node x s) x)
