-- The rows that a step names by its events: what they don't name is as it was.
use Rattle.std.specs.Prelude.{ℕ, Bool, true, false, List, filter, map, ◌≡◌, ◌⊎◌}
use Rattle.swarm_model.specs.Changed.{changes_between}
use Rattle.swarm_objects.specs.Rows.{Has, node_id, row_at, service_id, task_id}
use Rattle.swarm_objects.specs.World.{Tables}
use Rattle.swarm_objects.specs.declared.ids.Kind.{Kind}
use Rattle.swarm_objects.specs.declared.ids.Kind.TheVariants as kind
use Rattle.swarm_objects.specs.declared.watches.Event.{Event}

-- the rows that a step names
pub record Named : Type 0 where
  pub tasks : List ℕ
  pub services : List ℕ
  pub nodes : List ℕ

-- each row that isn't named is as it was, or isn't there as before
abbrev pub Unless : {X : Type 0} → (X → ℕ) → List ℕ → List X → List X → Type 0
Unless key named before after = (id : ℕ) → Has named id ⊎ (row_at key id after ≡ row_at key id before)

pub record Leaves (named : Named) (t u : Tables) : Type 0 where
  pub tasks : Unless task_id named.tasks t.tasks u.tasks
  pub services : Unless service_id named.services t.services u.services
  pub nodes : Unless node_id named.nodes t.nodes u.nodes

abbrev pub is_task_kind : Kind → Bool
is_task_kind kind.Task = true
is_task_kind _ = false

abbrev pub is_service_kind : Kind → Bool
is_service_kind kind.Service = true
is_service_kind _ = false

abbrev pub is_node_kind : Kind → Bool
is_node_kind kind.Node = true
is_node_kind _ = false

abbrev pub event_id : Event → ℕ
event_id e = e.id

abbrev pub ids_of : (Kind → Bool) → List Event → List ℕ
ids_of test events = map event_id (filter (λ e. test e.kind) events)

abbrev pub named_by : List Event → Named
named_by events = record {
  tasks = ids_of is_task_kind events;
  services = ids_of is_service_kind events;
  nodes = ids_of is_node_kind events;
}

-- what no event names is as it was
abbrev pub ToldLaw : Type 0
ToldLaw = (n : ℕ) (t u : Tables) → Leaves (named_by (changes_between n t u)) t u
