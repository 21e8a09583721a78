-- Look-ups that may be refused, and what follows them.
use Rattle.std.specs.Prelude.{if◌then◌else◌, ℕ, Err, List, Ok, Result}
use Rattle.swarm_model.specs.Calls.Refusals.{found, on_node}
use Rattle.swarm_objects.specs.Refusals.{unless}
use Rattle.swarm_objects.specs.Nodes.Admission.{not_admitted}
use Rattle.swarm_model.specs.Calls.Remote.{pulled, report}
use Rattle.swarm_model.specs.Outcome.{Answered}
use Rattle.swarm_objects.specs.Agents.Messages.{message_for}
use Rattle.swarm_objects.specs.Nodes.Sessions.{session_of}
use Rattle.swarm_objects.specs.Rows.{row_at, task_id}
use Rattle.swarm_objects.specs.World.{Tables, World}
use Rattle.swarm_objects.specs.declared.ids.Kind.TheVariants as kind
use Rattle.swarm_objects.specs.declared.nodes.Node.{Node}
use Rattle.swarm_objects.specs.declared.replies.Refusal.{Refusal}
use Rattle.swarm_objects.specs.declared.replies.Refusal.TheVariants as refusal
use Rattle.swarm_objects.specs.declared.replies.Reply.TheVariants as reply
use Rattle.swarm_objects.specs.declared.replies.Wanted.TheVariants as wanted_by
use Rattle.swarm_objects.specs.declared.sessions.NodeSession.{NodeSession}
use Rattle.swarm_objects.specs.declared.tasks.TaskState.{TaskState}

-- the node with this name, whose agent is inside
abbrev pub inside : Tables → List ℕ → Result ℕ Refusal
inside t name = on_node t name (λ n. if n.remote then Err (refusal.WrongKind n.id) else Ok n.id)

-- the node with this name, whose agent is outside
abbrev pub remote_node : Tables → List ℕ → Result Node Refusal
remote_node t name = on_node t name (λ n. if n.remote then Ok n else Err (refusal.WrongKind n.id))

-- that node, where this is its live session
abbrev pub session_node_of : Tables → List ℕ → ℕ → Result ℕ Refusal
session_node_of t name session =
    on_node t name
    (λ n. if n.remote then unless (not_admitted t.clock session (session_of t n.id)) n.id
    else Err (refusal.WrongKind n.id))

-- the session has a beat at this time, and lasts to this deadline
abbrev pub beaten_at : ℕ → ℕ → NodeSession → NodeSession
beaten_at clock deadline s = record s { session = record s.session { deadline = deadline; beat = clock } }

-- what a node's report of a task is answered
abbrev pub reported : ℕ → World → ℕ → TaskState → ℕ → Answered
reported version w node s task =
    found kind.Task (wanted_by.Id task) (row_at task_id task w.tables.tasks) (report version w node s)

-- what a node that asks for a message is answered
abbrev pub pulled_by : World → ℕ → Answered
pulled_by w node = Ok (reply.Pulled (message_for w node), pulled w node (message_for w node))
