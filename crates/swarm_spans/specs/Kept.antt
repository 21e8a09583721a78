-- What a step from tables t to tables u leaves as it was, in what a line reads. Each of these says: where the line
-- could tell the row from the former one, the span has what it concerns. So a row that a step names, and that the line
-- can't tell from the former one, needs no touch.
use Rattle.std.specs.Prelude.{ℕ, Bool, List, Option, Some, ◌≡◌, ◌⊎◌, true}
use Rattle.swarm_objects.specs.Rows.{Has, node_id, row_at, service_id, task_id}
use Rattle.swarm_objects.specs.World.{Tables}
use Rattle.swarm_objects.specs.declared.duties.Duty.{Duty}
use Rattle.swarm_objects.specs.declared.nodes.Node.{Node}
use Rattle.swarm_objects.specs.declared.services.Service.{Service}
use Rattle.swarm_objects.specs.declared.tasks.Task.{Task}
use Rattle.swarm_spans.specs.Spans.{has_duty, is_in}
use Rattle.swarm_spans.specs.declared.span.Span.{Span}

-- the same row or none as before, or one that is alike
abbrev pub IsAlike : {X : Type 0} → (X → X → Type 0) → Option X → Option X → Type 0
IsAlike {X} Alike before after =
    (after ≡ before) ⊎ ((x y : X) × (before ≡ Some x) × (after ≡ Some y) × Alike x y)

-- no tables tell the two tasks apart for the line, and they stand by the same service and node
pub record AlikeFor (line : Tables → Task → List Duty) (x y : Task) : Type 0 where
  pub due : (t : Tables) → has_duty (line t) y ≡ has_duty (line t) x
  pub service : y.service ≡ x.service
  pub node : y.node ≡ x.node

-- they have the same id, service, iteration, place and node
pub record StandAlike (x y : Task) : Type 0 where
  pub id : y.id ≡ x.id
  pub service : y.service ≡ x.service
  pub iteration : y.iteration ≡ x.iteration
  pub place : y.place ≡ x.place
  pub node : y.node ≡ x.node

-- each task that may have a duty is in the span, or like before
pub record KeepsTasks (may : Task → Bool) (Alike : Task → Task → Type 0) (t u : Tables) (wide : Span) : Type 0 where
  pub own : (y : Task) → Has u.tasks y → may y ≡ true
      → (is_in wide y.id ≡ true) ⊎ IsAlike Alike (row_at task_id y.id t.tasks) (Some y)

-- a task that was there and is there
pub record Stays (t u : Tables) (x y : Task) : Type 0 where
  pub was : Has t.tasks x
  pub is : Has u.tasks y
  pub id : x.id ≡ y.id
  pub service : y.service ≡ x.service
  pub node : y.node ≡ x.node

-- each task that stays by its service is in the span, or has its service like before
pub record KeepsServices (Alike : Service → Service → Type 0) (t u : Tables) (wide : Span) : Type 0 where
  pub of : (x y : Task) → Stays t u x y
      → (is_in wide y.id ≡ true)
      ⊎ IsAlike Alike (row_at service_id y.service t.services) (row_at service_id y.service u.services)

-- each task that stays on its node is in the span, or has its node like before
pub record KeepsNodes (Alike : Node → Node → Type 0) (t u : Tables) (wide : Span) : Type 0 where
  pub on : (x y : Task) (n : ℕ) → Stays t u x y → y.node ≡ Some n
      → (is_in wide y.id ≡ true) ⊎ IsAlike Alike (row_at node_id n t.nodes) (row_at node_id n u.nodes)

-- The same for the nodes themselves.
pub record KeepsOwnNodes (may : Node → Bool) (Alike : Node → Node → Type 0) (t u : Tables) (wide : Span) : Type 0 where
  pub own : (m : Node) → Has u.nodes m → may m ≡ true
      → (is_in wide m.id ≡ true) ⊎ IsAlike Alike (row_at node_id m.id t.nodes) (Some m)

-- each of the tasks that pass is in the span, or P holds of it
pub record KeepsWhere (test : Task → Bool) (P : Task → Type 0) (t : Tables) (wide : Span) : Type 0 where
  pub each : (x : Task) → Has t.tasks x → test x ≡ true → (is_in wide x.id ≡ true) ⊎ P x
