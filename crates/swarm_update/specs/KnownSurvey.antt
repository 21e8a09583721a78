-- What is remembered of the services whose updates were looked at last, and which changes leave it so.
use Rattle.std.specs.Prelude.{Bool, List, None, Option, Some, [], false, filter, get_or, if◌then◌else◌, length, nat_lt, not, true, ℕ, ⊤, IfSome, ◌%◌, ◌&&◌, ◌+◌, ◌<◌, ◌==◌, ◌||◌, ◌≡◌, ◌∷◌, max, set}
use Rattle.std.specs.Global.{Box}
use Rattle.std.specs.List.{list_any}
use Rattle.role_words.specs.Marks.{has_number, tasks_at}
use Rattle.role_words.specs.Suspects.{is_suspect}
use Rattle.swarm_objects.specs.Rows.{is_row_and, is_some_and, row_at, service_id, task_id}
use Rattle.swarm_objects.specs.Services.Runs.{counts_as_failure, failures}
use Rattle.swarm_objects.specs.Tasks.Places.{place_number}
use Rattle.swarm_objects.specs.Tasks.Words.{is_of}
use Rattle.swarm_objects.specs.World.{Tables}
use Rattle.swarm_objects.specs.declared.rows.Change.{Change}
use Rattle.swarm_objects.specs.declared.rows.Change.TheVariants as change
use Rattle.swarm_objects.specs.declared.services.Service.{Service}
use Rattle.swarm_objects.specs.declared.services.UpdateRun.{UpdateRun}
use Rattle.swarm_objects.specs.declared.tasks.Task.{Task}
use Rattle.swarm_update.specs.Marks.{mark_at, mark_of}
use Rattle.swarm_update.specs.StalePlaces.{is_stale}
use Rattle.swarm_update.specs.declared.clean.CleanServices.{CleanServices}
use Rattle.swarm_update.specs.declared.clean.TheConstants.{SLOTS}
use Rattle.swarm_update.specs.declared.kept_surveys.KeptSurveys.{KeptSurveys}
use Rattle.swarm_update.specs.declared.kept_surveys.TheConstants.{SURVEYS}
use Rattle.swarm_update.specs.declared.known_survey.Kept.{Kept}
use Rattle.swarm_update.specs.declared.known_survey.KnownSurvey.{KnownSurvey}
use Rattle.swarm_update.specs.declared.known_survey.Subject.{Subject}
use Rattle.swarm_update.specs.declared.marks.Mark.{Mark}
use Rattle.swarm_update.specs.declared.marks.Places.{Places}
use Rattle.swarm_update.specs.declared.marks.TheConstants.{WIDTH}
use Rattle.swarm_update.specs.declared.survey.Survey.{Survey}

-- the marks are what the tasks say of the service's places, but of these
pub record ShowsOthers (v : Places) (t : Tables) (s : Service) (stale : ℕ → Bool) : Type 0 where
  pub wide : length v.marks ≡ WIDTH
  pub marks : (k : ℕ) → k < WIDTH → stale k ≡ false → mark_at v k ≡ mark_of t s (tasks_at s t.tasks k)
  pub reach : (k : ℕ) → has_number s t.tasks k ≡ true → k < WIDTH → stale k ≡ false → k < v.reach
  pub far : v.has_far ≡ false → (k : ℕ) → has_number s t.tasks k ≡ true → k < WIDTH

-- with another mark of the place with this number
abbrev pub with_mark : ℕ → Mark → Places → Places
with_mark k m v = record v { marks = set v.marks k m; reach = max v.reach (k + 1) }

-- the survey tells of the service what it is kept for
pub record IsSo (v : Survey) (k : Subject) (t : Tables) (s : Service) : Type 0 where
  pub places : ShowsOthers v.places t s (is_stale k.stale)
  pub failures : k.is_counted ≡ true → (run : UpdateRun) → run.version ≡ k.version → v.failures ≡ failures t s run

-- where the service is there
pub record IsOf (t : Tables) (v : Survey) (k : Subject) : Type 0 where
  pub each : (s : Service) → row_at service_id k.service t.services ≡ Some s → IsSo v k t s

-- whatever is remembered of a run is so
abbrev pub KnowsKept : Tables → Kept → Type 0
KnowsKept t kept = IfSome kept.subject (IsOf t kept.survey)

-- it is of a service with this slot
abbrev pub StandsIn : ℕ → Kept → Type 0
StandsIn slot kept = IfSome kept.subject (λ k. k.service % SURVEYS ≡ slot)

-- what a slot has is so, and of such a service
pub record IsKept (t : Tables) (slot : ℕ) (kept : Kept) : Type 0 where
  pub knows : KnowsKept t kept
  pub stands : StandsIn slot kept

-- what all slots have is
pub record AreKept (t : Tables) (kept : KeptSurveys) : Type 0 where
  pub each : (slot : ℕ) → slot < SURVEYS → IfSome (get_or kept.slots slot None) (λ box. IsKept t slot box.value)

-- what the slot of the service with this id has
abbrev pub kept_of : KeptSurveys → ℕ → Option (Box Kept)
kept_of kept id = get_or kept.slots (id % SURVEYS) None

-- where there are slots
abbrev pub slot_in : Option (Box KeptSurveys) → ℕ → Option (Box Kept)
slot_in None id = None
slot_in (Some kept) id = kept_of kept.value id

-- the service with this id, where it is there, has no such task
pub record HasNoSuspect (t : Tables) (id : ℕ) : Type 0 where
  pub each : (s : Service) → row_at service_id id t.services ≡ Some s
      → list_any (is_suspect s) (filter (is_of s.id) t.tasks) ≡ false

-- the service has none, and stands in its slot
pub record IsClean (t : Tables) (slot id : ℕ) : Type 0 where
  pub none : HasNoSuspect t id
  pub stands : id % SLOTS ≡ slot

-- all that are remembered do
pub record AreClean (t : Tables) (clean : CleanServices) : Type 0 where
  pub each : (slot : ℕ) → slot < SLOTS → IfSome (get_or clean.services slot None) (IsClean t slot)

-- the service is remembered
abbrev pub has_service : CleanServices → ℕ → Bool
has_service clean id = is_some_and (λ k. k == id) (get_or clean.services (id % SLOTS) None)

-- whatever is remembered is so
pub record Knows (t : Tables) (known : KnownSurvey) : Type 0 where
  pub survey : IfSome known.kept (λ kept. AreKept t kept.value)
  pub clean : AreClean t known.clean

-- The changes.

-- the task is one of the run's, and has ended so that it may be one of its failures
abbrev pub may_fail : ℕ → Task → Bool
may_fail version x = x.born == version && counts_as_failure x.state

-- the marks don't tell of the place with this number
abbrev pub leaves_out : Subject → Bool → ℕ → Bool
leaves_out k far number = if nat_lt number WIDTH then is_stale k.stale number else far

-- whether the task is there matters
abbrev pub touches : Subject → Bool → Task → Bool
touches k far x =
    is_of k.service x
    && (not (leaves_out k far (place_number x.place)) || (k.is_counted && may_fail k.version x))

-- the row with the service's id is the same, in what a survey and the test of suspects read
pub record HasAlike (t : Tables) (s : Service) : Type 0 where
  pub row : Service
  pub is : row_at service_id s.id t.services ≡ Some row
  pub spec : s.spec ≡ row.spec
  pub iteration : s.iteration ≡ row.iteration

-- the change leaves what is remembered
abbrev pub Leaves : Tables → Subject → Bool → Change → Type 0
Leaves t k far (change.PutNode n) = ⊤
Leaves t k far (change.PutService s) = s.id ≡ k.service → HasAlike t s
Leaves t k far (change.PutTask x) =
    (touches k far x ≡ false) × (is_row_and task_id (touches k far) t.tasks x.id ≡ false)
Leaves t k far (change.DropTask id) = is_row_and task_id (touches k far) t.tasks id ≡ false
Leaves t k far (change.Keep a) = ⊤

-- the task may make a place of the service with this id dirty
abbrev pub is_suspect_of : Tables → ℕ → Task → Bool
is_suspect_of t id x = is_of id x && is_row_and service_id (λ s. is_suspect s x) t.services id

-- the change gives the service with this id no such task
abbrev pub StaysClean : Tables → ℕ → Change → Type 0
StaysClean t id (change.PutNode n) = ⊤
StaysClean t id (change.PutService s) = s.id ≡ id → HasAlike t s
StaysClean t id (change.PutTask x) = is_suspect_of t id x ≡ false
StaysClean t id (change.DropTask i) = ⊤
StaysClean t id (change.Keep a) = ⊤

-- none of them does
abbrev pub AllStayClean : Tables → ℕ → List Change → Type 0
AllStayClean t id [] = ⊤
AllStayClean t id (c ∷ cs) = StaysClean t id c × AllStayClean t id cs

-- the one service to which the change may give such a task
abbrev pub service_of : Change → Option ℕ
service_of (change.PutNode n) = None
service_of (change.PutService s) = Some s.id
service_of (change.PutTask x) = Some x.service
service_of (change.DropTask id) = None
service_of (change.Keep a) = None

-- what the slot still has it had before, and the change gives that no such task
pub record SlotIsLeft (t : Tables) (c : Change) (before : CleanServices) (slot id : ℕ) : Type 0 where
  pub was : get_or before.services slot None ≡ Some id
  pub stays : id % SLOTS ≡ slot → StaysClean t id c

-- so it is with all slots
pub record SlotsAreLeft (t : Tables) (c : Change) (before after : CleanServices) : Type 0 where
  pub each : (slot : ℕ) → slot < SLOTS → IfSome (get_or after.services slot None) (SlotIsLeft t c before slot)

-- the same with more stale places, or without the failures
pub record IsLess (before after : Subject) : Type 0 where
  pub service : after.service ≡ before.service
  pub version : after.version ≡ before.version
  pub counted : after.is_counted ≡ true → before.is_counted ≡ true
  pub stale : (k : ℕ) → k < WIDTH → is_stale after.stale k ≡ false → is_stale before.stale k ≡ false

-- the places before this one with a task in flight are stale
pub record AreStale (end : ℕ) (v : Places) (k : Subject) : Type 0 where
  pub each : (n : ℕ) → n < end → (mark_at v n).has_flying ≡ true → is_stale k.stale n ≡ true

-- the slot is that of a service of which the change puts or drops a task, or which it puts
abbrev pub concerns : Tables → Change → ℕ → Bool
concerns t (change.PutNode n) slot = false
concerns t (change.PutService s) slot = s.id % SURVEYS == slot
concerns t (change.PutTask x) slot =
    x.service % SURVEYS == slot || is_row_and task_id (λ y. y.service % SURVEYS == slot) t.tasks x.id
concerns t (change.DropTask id) slot = is_row_and task_id (λ y. y.service % SURVEYS == slot) t.tasks id
concerns t (change.Keep a) slot = false

-- what is still remembered was before, and where it was told of the change, this leaves it
pub record IsLeft (t : Tables) (c : Change) (is_told : Bool) (before : Kept) (v : Survey) (k : Subject) : Type 0 where
  pub was : Subject
  pub is : before.subject ≡ Some was
  pub survey : v ≡ before.survey
  pub less : IsLess was k
  pub leaves : is_told ≡ true → Leaves t k v.places.has_far c

-- so it is with what a slot had and has
abbrev pub SlotIsTold : Tables → Change → Bool → Option (Box Kept) → Option (Box Kept) → Type 0
SlotIsTold t c is_told None None = ⊤
SlotIsTold t c is_told None (Some b) = ⊥
SlotIsTold t c is_told (Some a) None = ⊥
SlotIsTold t c is_told (Some a) (Some b) = IfSome b.value.subject (IsLeft t c is_told a.value b.value.survey)

-- so it is with all slots, of which these were told
pub record AreTold (t : Tables) (c : Change) (are_told : ℕ → Bool) (before after : KeptSurveys) : Type 0 where
  pub each : (slot : ℕ) → slot < SURVEYS
      → SlotIsTold t c (are_told slot) (get_or before.slots slot None) (get_or after.slots slot None)
