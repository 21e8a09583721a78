-- The size of a world, which bounds the duties that may follow without a call.
use Rattle.std.specs.Prelude.{length, ℕ, ◌+◌, sum_by, ◌*◌, Bool, false, true, List, count_by, map, not, ◌++◌, ◌≤◌}
use Rattle.swarm_model.specs.History.{IsLegal, replay}
use Rattle.swarm_objects.specs.Rows.{on_row}
use Rattle.swarm_objects.specs.World.{Tables, World}
use Rattle.swarm_objects.specs.declared.agents.NodeAgent.{NodeAgent}
use Rattle.swarm_objects.specs.declared.calls.Entry.{Entry}
use Rattle.swarm_objects.specs.declared.calls.What.TheVariants as what
use Rattle.swarm_objects.specs.declared.duties.Duty.{Duty}
use Rattle.swarm_objects.specs.declared.duties.Duty.TheVariants as duty
use Rattle.swarm_objects.specs.declared.messages.Message.{Message}
use Rattle.swarm_objects.specs.declared.services.Mode.{Mode}
use Rattle.swarm_objects.specs.declared.services.Mode.TheVariants as mode
use Rattle.swarm_objects.specs.declared.services.Service.{Service}
use Rattle.swarm_objects.specs.declared.services.ServiceSpec.{ServiceSpec}

-- the executors, and the changes in the inbox
abbrev pub size_of_agent : NodeAgent → ℕ
size_of_agent a = length a.executors + on_row 0 (λ (m : Message). length m.changes) a.inbox

-- the places that a specification wants
abbrev pub places_wanted : Tables → Mode → ℕ
places_wanted t (mode.Replicated replicas) = replicas
places_wanted t mode.Global = length t.nodes
places_wanted t (mode.Job concurrent total) = total

abbrev pub wanted_by_spec : Tables → ServiceSpec → ℕ
wanted_by_spec t spec = places_wanted t spec.mode

-- by the present and the previous specification
abbrev pub places_of_service : Tables → Service → ℕ
places_of_service t s = wanted_by_spec t s.spec + on_row 0 (wanted_by_spec t) s.previous

abbrev pub size : World → ℕ
size w =
    length w.tables.tasks + length w.tables.nodes + length w.tables.services
    + sum_by size_of_agent w.agents
    + 4 * sum_by (places_of_service w.tables) w.tables.services
    + 1

abbrev pub is_silent_duty : Duty → Bool
is_silent_duty (duty.Explain x) = true
is_silent_duty (duty.Note x) = true
is_silent_duty _ = false

abbrev pub by_caller : ℕ → Duty → Entry
by_caller caller d = record { by = caller; what = what.Duty d }

-- the law: no more than 2000 * M * M duties follow a legal history, and at most 400 * M of them other than explain
-- and note
abbrev pub BoundLaw : Type 0
BoundLaw =
    (h : List Entry) (ds : List Duty) → IsLegal (h ++ map (by_caller 0) ds)
    → (length ds ≤ 2000 * size (replay h) * size (replay h))
    × (count_by (λ d. not (is_silent_duty d)) ds ≤ 400 * size (replay h))
