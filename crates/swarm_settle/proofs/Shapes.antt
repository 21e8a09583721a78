-- Tables without all that doesn't count for places and runs, and what a duty or an operation makes of such tables.
use Rattle.std.proofs.Common.{Bool, List, None, Option, Some, [], false, true, ℕ, ◌++◌, ◌<◌, ◌∷◌, ◌≡◌, ◌≤◌, ◌⊎◌}
use Rattle.std.specs.Option.{option_map}
use Rattle.std.specs.Prelude.{length, map}
use Rattle.swarm_model.proofs.Laws.OneEach.{IsAlike}
use Rattle.swarm_model.proofs.Moves.Rows.{RisesBetween}
use Rattle.swarm_objects.specs.NewRows.{next_iteration, version_of_template}
use Rattle.swarm_model.specs.Closing.{Closing}
use Rattle.swarm_objects.specs.Changes.{change_service, change_task, change_where, wanted, without_place}
use Rattle.swarm_objects.specs.Loops.Reaper.{without_task}
use Rattle.swarm_objects.specs.Loops.Restart.{closed_by, raised, shut}
use Rattle.swarm_objects.specs.Loops.Update.{live_of_place, swap_place}
use Rattle.swarm_objects.specs.Rows.{Has, drop_row, service_id, task_id}
use Rattle.swarm_objects.specs.Services.Runs.{is_under_way}
use Rattle.swarm_objects.specs.Services.Words.{is_job}
use Rattle.swarm_objects.specs.Tasks.New.{goal_of}
use Rattle.swarm_objects.specs.Tasks.Places.{counts_for, has_dirty_place, has_other, held_places, is_held_place, live_places, newest, place_at, tasks_of_place}
use Rattle.swarm_objects.specs.Tasks.Words.{is_kept, is_live, is_to_wait}
use Rattle.swarm_objects.specs.Values.Ranks.{desired_rank}
use Rattle.swarm_objects.specs.World.{Tables, empty_tables}
use Rattle.swarm_objects.specs.declared.services.Mode.TheVariants as mode
use Rattle.swarm_objects.specs.declared.services.RunStatus.TheVariants as status
use Rattle.swarm_objects.specs.declared.services.RunStatus.{RunStatus}
use Rattle.swarm_objects.specs.declared.services.Service.{Service}
use Rattle.swarm_objects.specs.declared.services.ServiceSpec.{ServiceSpec}
use Rattle.swarm_objects.specs.declared.services.UpdateRun.{UpdateRun}
use Rattle.swarm_objects.specs.declared.tasks.Closed.{Closed}
use Rattle.swarm_objects.specs.declared.tasks.Desired.TheVariants as desired
use Rattle.swarm_objects.specs.declared.tasks.Note.TheVariants as note
use Rattle.swarm_objects.specs.declared.tasks.Place.{Place}
use Rattle.swarm_objects.specs.declared.tasks.Task.{Task}
use Rattle.swarm_objects.specs.declared.tasks.TaskState.TheVariants as state

-- the task with its place, its template, what is wanted of it and its cause alone
abbrev pub blank : Task → Task
blank x = record x {
  version = 0;
  born = 0;
  node = None;
  state = state.New;
  since = 0;
  created = 0;
  raise_at = 0;
  addresses = [];
  note = note.Empty;
}

abbrev pub bare_run : UpdateRun → UpdateRun
bare_run r = record r { total = 0; replaced = [] }

abbrev pub bare : Service → Service
bare s = record s { version = 0; numbers = []; run = option_map bare_run s.run }

abbrev pub shape_of : List Service → List Task → Tables
shape_of services tasks = record empty_tables { services = map bare services; tasks = map blank tasks }

abbrev pub shape : Tables → Tables
shape t = shape_of t.services t.tasks

-- what is known of each shape beforehand
pub record Base (t : Tables) : Type 0 where
  pub high : ℕ
  pub tasks : RisesBetween task_id 1 high t.tasks
  pub services : RisesBetween service_id 1 high t.services
  pub most : (x : Task) (s : Service) → Has t.tasks x → Has t.services s → x.service ≡ s.id → x.iteration ≤ s.iteration
  pub goal : (x : Task) → Has t.tasks x → desired_rank x.goal ≤ desired_rank desired.Complete
  pub place : (x : Task) (s : Service) → Has t.tasks x → Has t.services s → x.service ≡ s.id →
      (k : ℕ) × (x.place ≡ place_at s.spec.mode k)

-- Duties.

-- it stands in no place of a service that is there
abbrev pub IsNowhere : Tables → Task → Type 0
IsNowhere t x = (s : Service) → Has t.services s → counts_for s x ≡ false

-- it is the newest of no place, unless it is to be removed
abbrev pub IsNoNewest : Tables → Task → Type 0
IsNoNewest t x =
    (s : Service) (p : Place) (z : Task) → Has t.services s → newest (tasks_of_place s p t.tasks) ≡ Some z →
    is_kept z ≡ true → ¬ (z.id ≡ x.id)

-- a new task of the service, in this place
pub record Comes (t : Tables) (s : Service) (p : Place) (y : Task) : Type 0 where
  pub above : (x : Task) → Has t.tasks x → x.id < y.id
  pub service : y.service ≡ s.id
  pub place : y.place ≡ p
  pub iteration : y.iteration ≡ s.iteration
  pub template : y.template ≡ s.spec.template
  pub goal : y.goal ≡ goal_of s.spec.mode
  pub wanted : (y.desired ≡ desired.Ready) ⊎ (y.desired ≡ y.goal)
  pub closed : y.closed ≡ None

abbrev pub pushed : Tables → Task → Tables
pushed t y = record t { tasks = t.tasks ++ y ∷ [] }

-- a job has fewer live and fewer held places than it may
abbrev pub HasRoom : Tables → Service → Type 0
HasRoom t s =
    (c n : ℕ) → s.spec.mode ≡ mode.Job c n → (length (live_places t s) < c) × (length (held_places t s) < n)

-- a live task of the service in its place is to stop
pub record Restarts (t : Tables) (x : Task) (s : Service) : Type 0 where
  pub there : Has t.tasks x
  pub of : Has t.services s
  pub live : is_live x ≡ true
  pub counts : counts_for s x ≡ true

-- a run under way of a service that is no job
pub record Runs (t : Tables) (s : Service) (run : UpdateRun) : Type 0 where
  pub of : Has t.services s
  pub no_job : is_job s.spec.mode ≡ false
  pub run_is : s.run ≡ Some run
  pub under_way : is_under_way run ≡ true

-- it came to its end
abbrev pub is_done : RunStatus → Bool
is_done status.Completed = true
is_done status.RollbackCompleted = true
is_done _ = false

-- all but the run stays
pub record SameButRun (s v : Service) : Type 0 where
  pub id : v.id ≡ s.id
  pub spec : v.spec ≡ s.spec
  pub previous : v.previous ≡ s.previous
  pub template_version : v.template_version ≡ s.template_version
  pub iteration : v.iteration ≡ s.iteration

-- a run begins, ends or pauses, or the service goes back
pub data RunStep (e : ℕ) (t : Tables) (s v : Service) : Type 0 where
  begins : (run : UpdateRun) → SameButRun s v → v.run ≡ Some run → run.version ≡ s.template_version →
      is_under_way run ≡ true → RunStep e t s v
  ends : (old run : UpdateRun) → SameButRun s v → s.run ≡ Some old → v.run ≡ Some run → run.version ≡ old.version →
      (is_done run.status ≡ true → has_dirty_place t s ≡ false) → RunStep e t s v
  goes_back : (spec : ServiceSpec) (run : UpdateRun) → v.id ≡ s.id → s.previous ≡ Some spec → v.spec ≡ spec →
      IsAlike spec.mode s.spec.mode → v.iteration ≡ s.iteration → v.template_version ≡ e → v.run ≡ Some run →
      run.version ≡ e → is_under_way run ≡ true → RunStep e t s v

-- what the duty that is the entry e makes, with the cause that it sets on a task
pub data DutyStep (e : ℕ) (t : Tables) : Option (ℕ × Closed) → Tables → Type 0 where
  stays : DutyStep e t None t
  raises : (x : Task) → Has t.tasks x → is_to_wait x ≡ true → DutyStep e t None (change_task x.id (raised 0) t)
  goes : (x : Task) → Has t.tasks x → IsNowhere t x → DutyStep e t None (change_task x.id (wanted 0 desired.Remove) t)
  shuts : (x : Task) (s : Service) → Restarts t x s → has_other t s x ≡ true → DutyStep e t None (shut 0 x.id t)
  renews : (x y : Task) (s : Service) → Restarts t x s → has_other t s x ≡ false → Comes t s x.place y →
      DutyStep e t None (pushed (shut 0 x.id t) y)
  closes : (x y : Task) (s : Service) (cause : Closed) → Restarts t x s → has_other t s x ≡ false →
      newest (tasks_of_place s x.place (shut 0 x.id t).tasks) ≡ Some y →
      DutyStep e t (Some (y.id, cause)) (change_task y.id (closed_by 0 cause) (shut 0 x.id t))
  swaps : (s : Service) (run : UpdateRun) (k : ℕ) → Runs t s run → DutyStep e t None (swap_place 0 t k s)
  removes : (s : Service) (k : ℕ) → Has t.services s → DutyStep e t None (without_place 0 t s k)
  creates : (s : Service) (k : ℕ) (y : Task) → Has t.services s → is_held_place t s k ≡ false → HasRoom t s →
      Comes t s (place_at s.spec.mode k) y → DutyStep e t None (pushed t y)
  drops : (x : Task) → Has t.tasks x → is_live x ≡ false → IsNoNewest t x → DutyStep e t None (without_task x.id t)
  stops_first : (s : Service) (run : UpdateRun) (k : ℕ) (y : Task) → Runs t s run →
      Comes t s (place_at s.spec.mode k) y →
      DutyStep e t None (pushed (change_where (live_of_place s k) (wanted 0 desired.Shutdown) t) y)
  starts_first : (s : Service) (run : UpdateRun) (k : ℕ) (y : Task) → Runs t s run →
      Comes t s (place_at s.spec.mode k) y → DutyStep e t None (pushed t y)
  runs : (s v : Service) → Has t.services s → is_job s.spec.mode ≡ false → RunStep e t s v →
      DutyStep e t None (change_service s.id (λ old. v) t)

-- The entries that set the causes of tasks, before an entry and after it.
abbrev pub Closings : Type 0
Closings = ℕ → Option Closing

abbrev pub IsLater : ℕ → Option (ℕ × Closed) → Closings → Closings → Type 0
IsLater e None c d = (id : ℕ) → d id ≡ c id
IsLater e (Some set) c d =
    (d set.0 ≡ Some (record { entry = e; cause = set.1 })) × ((id : ℕ) → ¬ (id ≡ set.0) → d id ≡ c id)

-- Operations.

-- the service gets the specification
pub record Respecifies (e : ℕ) (spec : ServiceSpec) (s v : Service) : Type 0 where
  pub id : v.id ≡ s.id
  pub spec_is : v.spec ≡ spec
  pub alike : IsAlike spec.mode s.spec.mode
  pub template_version : v.template_version ≡ version_of_template e spec s
  pub iteration : v.iteration ≡ next_iteration s.spec.mode s.iteration
  pub run : v.run ≡ s.run

pub data OpStep (e : ℕ) (t : Tables) : Tables → Type 0 where
  still : OpStep e t t
  respecifies : (s v : Service) (spec : ServiceSpec) → Has t.services s → Respecifies e spec s v →
      OpStep e t (change_service s.id (λ old. v) t)
  comes : (s : Service) → ((x : Task) → Has t.tasks x → ¬ (x.service ≡ s.id)) → s.run ≡ None →
      s.template_version ≡ e → OpStep e t (record t { services = t.services ++ s ∷ [] })
  leaves : (id : ℕ) → OpStep e t (record t { services = drop_row service_id id t.services })
