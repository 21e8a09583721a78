-- What each of a list of changes touches, from the tables before all of them.
use Rattle.std.specs.List.{list_any}
use Rattle.std.specs.Option.{option_map}
use Rattle.std.specs.Prelude.{Bool, List, Some, false, true, ℕ, ◌≡◌, ◌⊎◌}
use Rattle.swarm_objects.specs.ChangeLists.{apply_change}
use Rattle.swarm_objects.specs.Loops.Allocator.{port_duties}
use Rattle.swarm_objects.specs.Loops.Reaper.{is_past}
use Rattle.swarm_objects.specs.Rows.{Has, row_at, service_id, task_id}
use Rattle.swarm_objects.specs.Usable.{IsUsable}
use Rattle.swarm_objects.specs.World.{Tables}
use Rattle.swarm_objects.specs.declared.rows.Change.{Change}
use Rattle.swarm_objects.specs.declared.rows.Change.TheVariants as change
use Rattle.swarm_objects.specs.declared.nodes.Node.{Node}
use Rattle.swarm_objects.specs.declared.services.Service.{Service}
use Rattle.swarm_objects.specs.declared.tasks.Task.{Task}
use Rattle.swarm_spans.specs.Services.Lines.{comes, creates, downs, job_creates, leaves, trims, updates}
use Rattle.swarm_spans.specs.Services.Numbers.{frees_number}
use Rattle.swarm_spans.specs.Services.Standings.{bounds, remains}
use Rattle.swarm_spans.specs.Services.Steps.{HasBesideOf, HasItself, HasNumber, HasServiceOf, HasTasksOf, Turns}
use Rattle.swarm_spans.specs.Spans.{CoversServices, CoversTasks, IsWider, full}
use Rattle.swarm_spans.specs.TasksCovered.{HasNewServices, at_time, with_nodes, with_services}
use Rattle.swarm_spans.specs.declared.service_spans.ServiceSpans.{ServiceSpans}
use Rattle.swarm_spans.specs.declared.span.Span.{Span}

-- a task that is put shows the same as the former one, or the span has both services, or it is new and quiet
pub record HasPut {S : Type 0} (quiet : Task → Bool) (show : Task → S) (t : Tables) (x : Task) (span : Span)
    : Type 0 where
  pub shown : Turns quiet show span (row_at task_id x.id t.tasks) (Some x)

-- of a line over services that sees so much of a task
pub record HasTouched {S : Type 0} (quiet : Task → Bool) (show : Task → S) (t : Tables) (c : Change) (span : Span)
    : Type 0 where
  pub service : (s : Service) → c ≡ change.PutService s → HasNumber span s.id
  pub put : (x : Task) → c ≡ change.PutTask x → HasPut quiet show t x span
  pub dropped : (id : ℕ) → c ≡ change.DropTask id → HasServiceOf span (row_at task_id id t.tasks)

-- of a task that is put the same remains as of the former one, or the span has those beside the one and the other
pub record HasPlaces (t : Tables) (x : Task) (span : Span) : Type 0 where
  pub shown : (option_map remains (row_at task_id x.id t.tasks) ≡ Some (remains x))
      ⊎ (HasBesideOf span t (row_at task_id x.id t.tasks) × HasBesideOf span t (Some x) × HasItself span (Some x))

-- a task that is new: the span has it, and each task that stood beside it, where they are past
pub record AddsNew (t : Tables) (x : Task) (span : Span) : Type 0 where
  pub beside : HasBesideOf span t (Some x)
  pub own : HasItself span (Some x)

-- a task that takes the place of a former one
pub record AddsOther (t : Tables) (old x : Task) (span : Span) : Type 0 where
  pub shown : (old.id ≡ x.id → remains old ≡ remains x) ⊎ (HasBesideOf span t (Some old) × AddsNew t x span)

-- a service that is put bounds its places like the former one, or the span has its tasks
pub record HasBounded (t : Tables) (s : Service) (span : Span) : Type 0 where
  pub shown : (option_map bounds (row_at service_id s.id t.services) ≡ Some (bounds s)) ⊎ HasTasksOf span t s.id

-- of the line over old tasks
pub record HasTrimmed (t : Tables) (c : Change) (span : Span) : Type 0 where
  pub service : (s : Service) → c ≡ change.PutService s → HasBounded t s span
  pub put : (x : Task) → c ≡ change.PutTask x → HasPlaces t x span
  pub dropped : (id : ℕ) → c ≡ change.DropTask id → HasBesideOf span t (row_at task_id id t.tasks)

-- a service that is put: the span has it, or every row where a port number gets free
pub record HasNumbered (t : Tables) (s : Service) (span : Span) : Type 0 where
  pub has : ((frees_number t s ≡ true) × IsWider span full) ⊎ ((frees_number t s ≡ false) × HasNumber span s.id)

-- so of each row with this id, whatever is in it
pub record HasRenumbered (t : Tables) (id : ℕ) (span : Span) : Type 0 where
  pub has : IsWider span full ⊎ ((s : Service) → s.id ≡ id → HasNumbered t s span)

-- of the line over ports
pub record HasPorts (t : Tables) (c : Change) (span : Span) : Type 0 where
  pub service : (s : Service) → c ≡ change.PutService s → HasNumbered t s span

-- Items one after the other: each has its part in the span, or is left.
pub record Touching {X : Type 0} (part : X → Span → Type 0) (all left : List X) (first span : Span) : Type 0 where
  pub wider : IsWider span first
  pub each : (x : X) → Has all x → part x span ⊎ Has left x

-- a past task
abbrev pub HasTask : Task → Span → Type 0
HasTask z span = is_past z ≡ true → HasNumber span z.id

pub record AddsPast (z : Task) (span : Span) : Type 0 where
  pub past : HasTask z span

abbrev pub puts_node : Change → Bool
puts_node (change.PutNode n) = true
puts_node _ = false

-- the one span has what the other two have
pub record Joins (wide a b : Span) : Type 0 where
  pub span : IsWider wide a
  pub more : IsWider wide b

-- the same, or every number where a node is put
pub record JoinsForNodes (cs : List Change) (joined span more : Span) : Type 0 where
  pub either : ((list_any puts_node cs ≡ true) × (joined ≡ full))
      ⊎ ((list_any puts_node cs ≡ false) × Joins joined span more)

-- each line is covered
pub record AreCovered (t : Tables) (spans : ServiceSpans) : Type 0 where
  pub downs : CoversServices downs t spans.downs
  pub creates : CoversServices creates t spans.creates
  pub leaves : CoversServices leaves t spans.leaves
  pub comes : CoversServices comes t spans.comes
  pub job_creates : CoversServices job_creates t spans.job_creates
  pub ports : CoversServices port_duties t spans.ports
  pub updates : CoversServices updates t spans.updates
  pub trims : CoversTasks trims t spans.trims

-- the ones cover what the others do of these tables, at any time
abbrev pub ServiceTimeLaw : Tables → ServiceSpans → ServiceSpans → Type 0
ServiceTimeLaw t spans wide = (clock : ℕ) → AreCovered t spans → AreCovered (at_time clock t) wide

-- where the others cover these tables, the ones do what a row of this service makes of them, whatever is in it
abbrev pub ServicePutLaw : ℕ → Tables → ServiceSpans → ServiceSpans → Type 0
ServicePutLaw id t spans wide =
    (s : Service) → s.id ≡ id → IsUsable (apply_change t (change.PutService s)) → AreCovered t spans
    → AreCovered (apply_change t (change.PutService s)) wide

-- the ones cover what the others do, where services come from this id on
abbrev pub NewServicesLaw : ℕ → ServiceSpans → ServiceSpans → Type 0
NewServicesLaw first spans wide =
    (t : Tables) (next_id : ℕ) (services : List Service) → IsUsable t → IsUsable (with_services next_id services t)
    → HasNewServices first next_id t services → AreCovered t spans → AreCovered (with_services next_id services t) wide

-- the ones cover what the others do, whatever becomes of the nodes
abbrev pub ServiceNodesLaw : ServiceSpans → ServiceSpans → Type 0
ServiceNodesLaw spans wide =
    (t : Tables) (next_id : ℕ) (nodes : List Node) → IsUsable t → AreCovered t spans
    → AreCovered (with_nodes next_id nodes t) wide
