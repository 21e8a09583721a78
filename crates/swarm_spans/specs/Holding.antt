-- What tasks hold of addresses and services of port numbers, which others then can't get: where no change sets any
-- free, or takes any, tasks that wait for them need not be touched.
use Rattle.std.specs.Prelude.{Bool, List, Some, [], if◌then◌else◌, ◌≡◌, ◌⊎◌, ⊤, ℕ}
use Rattle.swarm_objects.specs.Rows.{Has, on_row, row_at, service_id, task_id}
use Rattle.swarm_objects.specs.Services.Ports.{ports_held}
use Rattle.swarm_objects.specs.Tasks.Words.{is_not_over}
use Rattle.swarm_objects.specs.World.{Tables}
use Rattle.swarm_objects.specs.declared.rows.Change.{Change}
use Rattle.swarm_objects.specs.declared.rows.Change.TheVariants as change
use Rattle.swarm_objects.specs.declared.services.Service.{Service}
use Rattle.swarm_objects.specs.declared.tasks.Address.{Address}
use Rattle.swarm_objects.specs.declared.tasks.Task.{Task}
use Rattle.swarm_spans.specs.Spans.{IsWider}
use Rattle.swarm_spans.specs.declared.span.Span.{Span}

-- the addresses that the task holds
abbrev pub held : Task → List Address
held x = if is_not_over x then x.addresses else []

abbrev pub held_at : Tables → ℕ → List Address
held_at t id = on_row [] held (row_at task_id id t.tasks)

-- each of the ones is one of the others
pub record AreAmong (these those : List Address) : Type 0 where
  pub each : (a : Address) → Has these a → Has those a

-- they hold the same port numbers
pub record HoldSamePorts (a b : Service) : Type 0 where
  pub ports : (udp : Bool) → ports_held udp b ≡ ports_held udp a

-- the service that is put holds what the former one did
pub record KeepsPorts (t : Tables) (s : Service) : Type 0 where
  pub former : (a : Service) → row_at service_id s.id t.services ≡ Some a → HoldSamePorts a s

-- the change sets no address free
abbrev pub FreesNone : Tables → Change → Type 0
FreesNone t (change.PutTask y) = AreAmong (held_at t y.id) (held y)
FreesNone t (change.DropTask id) = AreAmong (held_at t id) []
FreesNone t (change.PutNode m) = ⊤
FreesNone t (change.PutService s) = ⊤
FreesNone t (change.Keep a) = ⊤

-- nor does it take one, or take or set free a port number
abbrev pub HoldsOn : Tables → Change → Type 0
HoldsOn t (change.PutTask y) = AreAmong (held_at t y.id) (held y) × AreAmong (held y) (held_at t y.id)
HoldsOn t (change.DropTask id) = AreAmong (held_at t id) []
HoldsOn t (change.PutNode m) = ⊤
HoldsOn t (change.PutService s) = KeepsPorts t s
HoldsOn t (change.Keep a) = ⊤

-- each of the changes so far, and of those that are left
pub record HavePassed (P : Change → Type 0) (all left : List Change) : Type 0 where
  pub each : (c : Change) → Has all c → P c ⊎ Has left c

pub record EachPasses (P : Change → Type 0) (cs : List Change) : Type 0 where
  pub each : (c : Change) → Has cs c → P c

-- the span has all that wait, or no change concerns them
abbrev pub TouchesWhere : (Change → Type 0) → List Change → Span → Span → Type 0
TouchesWhere P cs waiting wide = IsWider wide waiting ⊎ EachPasses P cs
