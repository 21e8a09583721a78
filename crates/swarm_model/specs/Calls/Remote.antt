-- The calls of remote nodes.
use Rattle.swarm_objects.specs.Nodes.Admission.{not_admitted, bad_report}
use Rattle.std.specs.Prelude.{Err, List, if◌then◌else◌, ℕ, None, Option, Some, Bool, is_none, ◌+◌, ◌*◌, find, Ok, nat_lt, false, true}
use Rattle.swarm_model.specs.Calls.Refusals.{on_node, bad_spec, found}
use Rattle.swarm_objects.specs.Refusals.{unless}
use Rattle.swarm_model.specs.Outcome.{Answered}
use Rattle.swarm_objects.specs.Agents.Messages.{with_sent, message_for}
use Rattle.swarm_objects.specs.Changes.{with_tables, raised_to, change_task}
use Rattle.swarm_objects.specs.Loops.Agents.{without_sent, after_beat}
use Rattle.swarm_objects.specs.Nodes.Opening.{tasks_within, with_resources}
use Rattle.swarm_objects.specs.Nodes.Sessions.{session_of, registered}
use Rattle.swarm_objects.specs.Rows.{change_row, node_id, on_row, row_at, task_id}
use Rattle.swarm_objects.specs.Rules.Nodes.{resource_rules, resources_break}
use Rattle.swarm_objects.specs.Values.Ranks.{rank}
use Rattle.swarm_objects.specs.World.{Tables, World}
use Rattle.swarm_objects.specs.declared.ids.Kind.TheVariants as kind
use Rattle.swarm_objects.specs.declared.messages.Message.{Message}
use Rattle.swarm_objects.specs.declared.nodes.Node.{Node}
use Rattle.swarm_objects.specs.declared.replies.Refusal.TheVariants as refusal
use Rattle.swarm_objects.specs.declared.replies.Reply.{Reply}
use Rattle.swarm_objects.specs.declared.replies.Reply.TheVariants as reply
use Rattle.swarm_objects.specs.declared.replies.Wanted.TheVariants as wanted_by
use Rattle.swarm_objects.specs.declared.tasks.Task.{Task}
use Rattle.swarm_objects.specs.declared.tasks.TaskState.{TaskState}

-- Remote nodes.

-- what follows, for a remote node that is there
abbrev pub on_remote : Tables → List ℕ → (Node → Answered) → Answered
on_remote t name next = on_node t name (λ n. if n.remote then next n else Err (refusal.WrongKind n.id))

-- the session is live for the node
abbrev pub admits_session : Tables → ℕ → ℕ → Bool
admits_session t node session = is_none (not_admitted t.clock session (session_of t node))

-- what follows, for a remote node under a live session
abbrev pub on_session : Tables → List ℕ → ℕ → (Node → Answered) → Answered
on_session t name session next =
    on_remote t name (λ n. elim (not_admitted t.clock session (session_of t n.id)) [ Some r ↦ Err r | None ↦ next n ])

-- Opening.

abbrev pub begun_tables : ℕ → Tables → ℕ → ℕ → ℕ → Tables
begun_tables version t node cpu mem = record (registered version t node) {
  nodes = change_row node_id node (with_resources version cpu mem) t.nodes;
  tasks = tasks_within version t.clock node cpu mem t.tasks;
}

-- the number that is given, or the one that is there
abbrev pub given_or : Option ℕ → ℕ → ℕ
given_or given there = on_row there (λ n. n) given

abbrev pub begun_reply : Tables → Reply
begun_reply t = reply.SessionBegun t.next_id (t.clock + 3 * t.settings.heartbeat)

abbrev pub begin_with : ℕ → World → ℕ → ℕ → ℕ → Answered
begin_with version w node cpu mem =
    unless (bad_spec (find (resources_break cpu mem) resource_rules))
    (begun_reply w.tables, without_sent node (with_tables w (begun_tables version w.tables node cpu mem)))

abbrev pub remote_begin : ℕ → World → List ℕ → Option ℕ → Option ℕ → Answered
remote_begin version w name cpu mem =
    on_remote w.tables name (λ n. begin_with version w n.id (given_or cpu n.cpu) (given_or mem n.mem))

-- Beats, messages and reports.

abbrev pub remote_beat : World → List ℕ → ℕ → Answered
remote_beat w name session =
    let deadline = w.tables.clock + 3 * w.tables.settings.heartbeat in
    on_session w.tables name session (λ n. Ok (reply.Beat deadline, with_tables w (after_beat w.tables n.id)))

abbrev pub pulled : World → ℕ → Option Message → World
pulled w node None = w
pulled w node (Some m) = with_sent w node m

abbrev pub remote_pull : World → List ℕ → ℕ → Answered
remote_pull w name session =
    on_session w.tables name session (λ n. Ok (reply.Pulled (message_for w n.id), pulled w n.id (message_for w n.id)))

abbrev pub status_reply : TaskState → TaskState → Reply
status_reply old s = if nat_lt (rank old) (rank s) then reply.Status true s else reply.Status false old

abbrev pub report : ℕ → World → ℕ → TaskState → Task → Answered
report version w node s x =
    unless (bad_report node x s)
    (status_reply x.state s, with_tables w (change_task x.id (raised_to version w.tables.clock s) w.tables))

abbrev pub remote_status : ℕ → World → List ℕ → ℕ → ℕ → TaskState → Answered
remote_status version w name session task s =
    on_session w.tables name session
    (λ n. found kind.Task (wanted_by.Id task) (row_at task_id task w.tables.tasks) (report version w n.id s))
