-- The parts of a match, each where it holds.
use Rattle.std.specs.Prelude.{Bool, List, Some, [], false, not, true, ℕ, ◌&&◌, ◌||◌, ◌∷◌, ◌≡◌}
use Rattle.std.specs.List.{list_all}
use Rattle.swarm_settle.specs.Rest.{IsAtRest, IsSettled}
use Rattle.swarm_model.specs.History.{IsLegal, replay}
use Rattle.swarm_model.specs.Laws.Matches.{are_closings_right, matches_mode, is_unplaceable, is_unprovided, live_tasks, stands_somewhere}
use Rattle.swarm_objects.specs.Nodes.Words.{is_drain, is_node_and, is_ready, meets_all}
use Rattle.swarm_objects.specs.Rows.{Has, row_at, service_id}
use Rattle.swarm_objects.specs.Services.Runs.{is_under_way}
use Rattle.swarm_objects.specs.Services.Words.{is_clean, is_job}
use Rattle.swarm_objects.specs.Tasks.Places.{has_live}
use Rattle.swarm_objects.specs.Tasks.Words.{has_ended, is_below_assigned, is_live, is_placed}
use Rattle.swarm_objects.specs.World.{World}
use Rattle.swarm_objects.specs.declared.calls.Entry.{Entry}
use Rattle.swarm_objects.specs.declared.nodes.Node.{Node}
use Rattle.swarm_objects.specs.declared.services.Service.{Service}
use Rattle.swarm_objects.specs.declared.services.UpdateRun.{UpdateRun}
use Rattle.swarm_objects.specs.declared.tasks.Task.{Task}

-- it holds of the world after each legal history where it is so
abbrev pub Wherever : (World → Type 0) → (World → Type 0) → Type 0
Wherever Is Q = (h : List Entry) → IsLegal h → Is (replay h) → Q (replay h)

abbrev pub NothingElse : World → Type 0
NothingElse w = list_all (stands_somewhere w.tables) w.tables.tasks ≡ true

abbrev pub NothingElseLaw : Type 0
NothingElseLaw = Wherever IsAtRest NothingElse

-- a live task below ASSIGNED says in its note which filters or which exhausted thing it is for
abbrev pub SayWhy : World → Type 0
SayWhy w =
    (x : Task) (s : Service) → Has w.tables.tasks x → is_live x ≡ true →
    row_at service_id x.service w.tables.services ≡ Some s → is_below_assigned x ≡ true →
    (is_unplaceable w.tables x || is_unprovided w.tables s x) ≡ true

abbrev pub UnmetLaw : Type 0
UnmetLaw = Wherever IsAtRest SayWhy

-- the places of each service are as its mode wants them
abbrev pub HasPlaces : World → Type 0
HasPlaces w = (s : Service) → Has w.tables.services s → matches_mode w.tables s s.spec.mode ≡ true

abbrev pub PlacesLaw : Type 0
PlacesLaw = Wherever IsAtRest HasPlaces

-- every held place without a live task carries its closing's cause, and is clean or was closed after the template
abbrev pub AreClosed : List Entry → Type 0
AreClosed h = list_all (are_closings_right h (replay h).tables) (replay h).tables.services ≡ true

abbrev pub ClosedLaw : Type 0
ClosedLaw = (h : List Entry) → IsLegal h → IsSettled (replay h) → AreClosed h

-- READY, not on DRAIN, and it meets the constraints
abbrev pub is_good_for : Service → Node → Bool
is_good_for s n = is_ready n.state && not (is_drain n.availability) && meets_all s.spec.template.constraints n

-- the task is clean, has not ended, and where it is placed its node is there and good for the service
pub record StandsWell (w : World) (s : Service) (x : Task) : Type 0 where
  pub clean : is_clean s x ≡ true
  pub ended : has_ended x ≡ false
  pub node : is_placed x ≡ true → is_node_and w.tables (is_good_for s) x ≡ true

-- a place with a live task has just one
abbrev pub AreAlone : World → Type 0
AreAlone w =
    (s : Service) (k : ℕ) → Has w.tables.services s → has_live w.tables s k ≡ true →
    (x : Task) × (live_tasks w.tables s k ≡ x ∷ []) × StandsWell w s x

abbrev pub OneLiveLaw : Type 0
OneLiveLaw = Wherever IsSettled AreAlone

-- no update is under way
abbrev pub NoRuns : World → Type 0
NoRuns w =
    (s : Service) (run : UpdateRun) → Has w.tables.services s → is_job s.spec.mode ≡ false → s.run ≡ Some run →
    is_under_way run ≡ false

abbrev pub UpdatesLaw : Type 0
UpdatesLaw = Wherever IsSettled NoRuns
