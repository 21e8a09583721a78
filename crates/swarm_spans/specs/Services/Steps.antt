-- What a step from tables to tables leaves as it was, or else what a span of services has.
use Rattle.std.specs.Option.{option_map}
use Rattle.std.specs.Prelude.{ℕ, Bool, None, Option, Some, true, ◌<◌, ◌≡◌, ◌⊎◌}
use Rattle.swarm_objects.specs.Loops.Allocator.{has_free_port}
use Rattle.swarm_objects.specs.Loops.Reaper.{is_past}
use Rattle.swarm_objects.specs.Rows.{Has, is_some_and, row_at, service_id, task_id}
use Rattle.swarm_objects.specs.Tasks.Words.{is_beside}
use Rattle.swarm_objects.specs.World.{Tables}
use Rattle.swarm_objects.specs.declared.services.Service.{Service}
use Rattle.swarm_objects.specs.declared.tasks.Task.{Task}
use Rattle.swarm_spans.specs.Services.Standings.{bounds, remains}
use Rattle.swarm_spans.specs.Spans.{is_in}
use Rattle.swarm_spans.specs.declared.span.Span.{Span}

-- no row has the number 0
abbrev pub HasNumber : Span → ℕ → Type 0
HasNumber span id = 0 < id → is_in span id ≡ true

-- the service of a task that may be there
pub record HasServiceOf (span : Span) (row : Option Task) : Type 0 where
  pub of : (x : Task) → row ≡ Some x → HasNumber span x.service

-- a task that may be there shows the same as before, or the span has its service, both the earlier and the later
abbrev pub ShowsSo : {S : Type 0} → (Task → S) → Span → Option Task → Option Task → Type 0
ShowsSo show span before after =
    (option_map show after ≡ option_map show before) ⊎ (HasServiceOf span before × HasServiceOf span after)

-- it is new, and quiet
pub record IsAdded (quiet : Task → Bool) (before after : Option Task) : Type 0 where
  pub none : before ≡ None
  pub new : is_some_and quiet after ≡ true

-- the one or the other
abbrev pub Turns : {S : Type 0} → (Task → Bool) → (Task → S) → Span → Option Task → Option Task → Type 0
Turns quiet show span before after = ShowsSo show span before after ⊎ IsAdded quiet before after

-- each task shows the same, or the span has its services
abbrev pub ShowsAgain : {S : Type 0} → (Task → S) → Span → Tables → Tables → Type 0
ShowsAgain show span t u = (id : ℕ) → ShowsSo show span (row_at task_id id t.tasks) (row_at task_id id u.tasks)

-- the span has each service that is other than before
pub record HasChanged (span : Span) (t u : Tables) : Type 0 where
  pub rows : (id : ℕ) → (row_at service_id id u.services ≡ row_at service_id id t.services) ⊎ HasNumber span id

-- and each service of which a task shows other than before
pub record HasShifted {S : Type 0} (show : Task → S) (span : Span) (t u : Tables) : Type 0 where
  pub services : HasChanged span t u
  pub tasks : ShowsAgain show span t u

-- the same, but for new tasks that are quiet
pub record HasShiftedBut {S : Type 0} (quiet : Task → Bool) (show : Task → S) (span : Span) (t u : Tables)
    : Type 0 where
  pub services : HasChanged span t u
  pub tasks : (id : ℕ) → Turns quiet show span (row_at task_id id t.tasks) (row_at task_id id u.tasks)

abbrev pub HasEach : Span → Tables → Type 0
HasEach span u = (s : Service) → Has u.services s → is_in span s.id ≡ true

-- the nodes are as before, or the span has all services
pub record HasForNodes (span : Span) (t u : Tables) : Type 0 where
  pub nodes : (u.nodes ≡ t.nodes) ⊎ HasEach span u

-- each protocol with a free port number had one before
abbrev pub HadFreePort : Tables → Tables → Type 0
HadFreePort t u = (udp : Bool) → has_free_port u udp ≡ true → has_free_port t udp ≡ true

-- the span has each service, but for those that are as before while no protocol gets its first free number
pub record HasForPorts (span : Span) (t u : Tables) : Type 0 where
  pub services : (s : Service) → Has u.services s → (is_in span s.id ≡ true) ⊎ (Has t.services s × HadFreePort t u)

-- each past task that stood beside one that may be there
pub record HasBesideOf (span : Span) (t : Tables) (row : Option Task) : Type 0 where
  pub beside : (x z : Task) → row ≡ Some x → Has t.tasks z → is_beside z x ≡ true → is_past z ≡ true
      → is_in span z.id ≡ true

-- a task that may be there, where it is past
pub record HasItself (span : Span) (row : Option Task) : Type 0 where
  pub own : (x : Task) → row ≡ Some x → is_past x ≡ true → HasNumber span x.id

-- each past task that the service had
pub record HasTasksOf (span : Span) (t : Tables) (service : ℕ) : Type 0 where
  pub tasks : (z : Task) → Has t.tasks z → z.service ≡ service → is_past z ≡ true → is_in span z.id ≡ true

-- the span has the tasks of each service that bounds its places otherwise than before, and each task of which something
-- else remains, with those beside it, as it was and as it is
pub record HasRemains (span : Span) (t u : Tables) : Type 0 where
  pub services : (id : ℕ)
      → (option_map bounds (row_at service_id id u.services) ≡ option_map bounds (row_at service_id id t.services))
      ⊎ HasTasksOf span t id
  pub tasks : (id : ℕ)
      → (option_map remains (row_at task_id id u.tasks) ≡ option_map remains (row_at task_id id t.tasks))
      ⊎ (HasBesideOf span t (row_at task_id id t.tasks) × HasBesideOf span t (row_at task_id id u.tasks)
      × HasItself span (row_at task_id id u.tasks))
