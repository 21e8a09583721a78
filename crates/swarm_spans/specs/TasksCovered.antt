-- All spans of the lines over single tasks and over nodes, and what they cover.
use Rattle.std.specs.Prelude.{List, Some, true, ℕ, ◌<◌, ◌≡◌, ◌≤◌, ◌⊎◌}
use Rattle.swarm_objects.specs.ChangeLists.{apply_change}
use Rattle.swarm_objects.specs.Loops.Dispatcher.{is_expired}
use Rattle.swarm_objects.specs.Loops.Scheduler.{schedule}
use Rattle.swarm_objects.specs.Nodes.Words.{is_ready}
use Rattle.swarm_objects.specs.Rows.{Has, node_id, row_at, service_id, session_node}
use Rattle.swarm_objects.specs.Usable.{IsUsable}
use Rattle.swarm_objects.specs.World.{Tables}
use Rattle.swarm_objects.specs.declared.nodes.Node.{Node}
use Rattle.swarm_objects.specs.declared.rows.Change.TheVariants as change
use Rattle.swarm_objects.specs.declared.services.Service.{Service}
use Rattle.swarm_objects.specs.declared.sessions.NodeSession.{NodeSession}
use Rattle.swarm_objects.specs.declared.tasks.Task.{Task}
use Rattle.swarm_spans.specs.Lines.{addresses, deletes, expires, goes, notes, olds, orphans, raises, rejects, restarts, to_allocate, to_schedule, to_wait}
use Rattle.swarm_spans.specs.Spans.{CoversNodes, CoversTasks, is_in}
use Rattle.swarm_spans.specs.declared.span.Span.{Span}
use Rattle.swarm_spans.specs.declared.task_spans.TaskSpans.{TaskSpans}

-- each line is covered
pub record AreTasksCovered (t : Tables) (spans : TaskSpans) : Type 0 where
  pub expires : CoversNodes expires t spans.expires
  pub orphans : CoversTasks orphans t spans.orphans
  pub rejects : CoversTasks rejects t spans.rejects
  pub restarts : CoversTasks restarts t spans.restarts
  pub raises : CoversTasks raises t spans.raises
  pub goes : CoversTasks goes t spans.goes
  pub olds : CoversTasks olds t spans.olds
  pub deletes : CoversTasks deletes t spans.deletes
  pub addresses : CoversTasks addresses t spans.addresses
  pub notes : CoversTasks notes t spans.notes
  pub schedules : CoversTasks schedule t spans.schedules
  pub to_wait : CoversTasks to_wait t spans.to_wait
  pub to_schedule : CoversTasks to_schedule t spans.to_schedule
  pub to_allocate : CoversTasks to_allocate t spans.to_allocate

-- with these sessions, of which one may be new
abbrev pub with_sessions : ℕ → List NodeSession → Tables → Tables
with_sessions next_id sessions t = record t { next_id = next_id; sessions = sessions }

-- each node but this one has the session that it had
pub record HasOthersSessions (node : ℕ) (t : Tables) (sessions : List NodeSession) : Type 0 where
  pub others : (n : ℕ) → (n ≡ node) ⊎ (row_at session_node n sessions ≡ row_at session_node n t.sessions)

-- the ones cover what the others do, whatever becomes of this node's session
abbrev pub SessionLaw : ℕ → TaskSpans → TaskSpans → Type 0
SessionLaw node spans wide =
    (t : Tables) (next_id : ℕ) (sessions : List NodeSession) → IsUsable t → HasOthersSessions node t sessions
    → AreTasksCovered t spans → AreTasksCovered (with_sessions next_id sessions t) wide

abbrev pub at_time : ℕ → Tables → Tables
at_time clock t = record t { clock = clock }

-- at any time up to this one each node whose session is over is in the span, or in that of sessions' ends
pub record HasEnds (until : ℕ) (t : Tables) (span ends : Span) : Type 0 where
  pub each : (clock : ℕ) → clock ≤ until → (n : Node) → Has t.nodes n → is_expired (at_time clock t) n ≡ true
      → (is_in span n.id ≡ true) ⊎ (is_in ends n.id ≡ true)

-- the ones cover what the others do of these tables, at any time up to this one
abbrev pub TimeLaw : ℕ → Tables → TaskSpans → TaskSpans → Type 0
TimeLaw until t spans wide =
    (clock : ℕ) → clock ≤ until → AreTasksCovered t spans → AreTasksCovered (at_time clock t) wide

-- where the others cover these tables, the ones do what a row of this service makes of them, whatever is in it
abbrev pub PutLaw : ℕ → Tables → TaskSpans → TaskSpans → Type 0
PutLaw id t spans wide =
    (s : Service) → s.id ≡ id → IsUsable (apply_change t (change.PutService s)) → AreTasksCovered t spans
    → AreTasksCovered (apply_change t (change.PutService s)) wide

-- with these services, of which some may be new
abbrev pub with_services : ℕ → List Service → Tables → Tables
with_services next_id services t = record t { next_id = next_id; services = services }

-- each service is as it was, but for new ones from this id on, of which there is no task yet
pub record HasNewServices (first next_id : ℕ) (t : Tables) (services : List Service) : Type 0 where
  pub others : (id : ℕ)
      → (row_at service_id id services ≡ row_at service_id id t.services) ⊎ ((first ≤ id) × (id < next_id))
  pub tasks : (x : Task) → Has t.tasks x → x.service < first

-- the ones cover what the others do, where services come
abbrev pub ServicesLaw : TaskSpans → TaskSpans → Type 0
ServicesLaw spans wide =
    (first : ℕ) (t : Tables) (next_id : ℕ) (services : List Service) → IsUsable t
    → HasNewServices first next_id t services → AreTasksCovered t spans
    → AreTasksCovered (with_services next_id services t) wide

-- with these nodes, of which some may be new
abbrev pub with_nodes : ℕ → List Node → Tables → Tables
with_nodes next_id nodes t = record t { next_id = next_id; nodes = nodes }

-- each node is as it was, but for new ones from this id on, which aren't READY, and on which there is no task yet
pub record HasNewNodes (first : ℕ) (t : Tables) (nodes : List Node) : Type 0 where
  pub others : (id : ℕ) → (row_at node_id id nodes ≡ row_at node_id id t.nodes) ⊎ (first ≤ id)
  pub tasks : (x : Task) (n : ℕ) → Has t.tasks x → x.node ≡ Some n → n < first
  pub ready : (m : Node) → Has nodes m → is_ready m.state ≡ true → Has t.nodes m

-- the ones cover what the others do, where nodes come
abbrev pub NodesLaw : TaskSpans → TaskSpans → Type 0
NodesLaw spans wide =
    (first : ℕ) (t : Tables) (next_id : ℕ) (nodes : List Node) → IsUsable t → HasNewNodes first t nodes
    → AreTasksCovered t spans → AreTasksCovered (with_nodes next_id nodes t) wide
