-- What services' lines read of a task.
use Rattle.std.specs.Prelude.{ℕ, Bool, Option, None, Some, is_some, if◌then◌else◌, not, ◌&&◌, ◌==◌, ◌||◌}
use Rattle.swarm_objects.specs.Loops.Reaper.{is_past}
use Rattle.swarm_objects.specs.Services.Runs.{counts_as_failure, has_open_run}
use Rattle.swarm_objects.specs.Same.{same_bool, same_place}
use Rattle.swarm_objects.specs.Services.Words.{is_job, is_live_clean, is_service_and}
use Rattle.swarm_objects.specs.Tasks.Words.{is_below_running, is_kept, is_live, is_running}
use Rattle.swarm_objects.specs.World.{Tables}
use Rattle.swarm_objects.specs.declared.services.Service.{Service}
use Rattle.swarm_objects.specs.declared.tasks.Place.{Place}
use Rattle.swarm_objects.specs.declared.tasks.Task.{Task}
use Rattle.swarm_objects.specs.declared.templates.Template.{Template}

-- what decides which places of its service are held
pub record Standing : Type 0 where
  pub service : ℕ
  pub place : Place
  pub iteration : ℕ
  pub live : Bool
  pub kept : Bool
  pub closed : Bool

abbrev pub standing : Task → Standing
standing x = record {
  service = x.service;
  place = x.place;
  iteration = x.iteration;
  live = is_live x;
  kept = is_kept x;
  closed = is_some x.closed;
}

-- what an update under way reads of a task's course: since when it runs, or has failed
pub record Course : Type 0 where
  pub born : ℕ
  pub created : ℕ
  pub below : Bool
  pub runs : Option ℕ
  pub failed : Option ℕ

abbrev pub course : Task → Course
course x = record {
  born = x.born;
  created = x.created;
  below = is_below_running x;
  runs = if is_running x then Some x.since else None;
  failed = if counts_as_failure x.state then Some x.since else None;
}

-- what decides which places are dirty, and the course of a task whose service has an update under way
pub record Progress : Type 0 where
  pub standing : Standing
  pub template : Template
  pub course : Option Course

abbrev pub is_updated : Tables → Task → Bool
is_updated t x = is_service_and t has_open_run x

abbrev pub progress : Tables → Task → Progress
progress t x = record {
  standing = standing x;
  template = x.template;
  course = if is_updated t x then Some (course x) else None;
}

-- live and clean, of a service without an update under way: where it is new, it gives none a duty
abbrev pub comes_quietly : Tables → Task → Bool
comes_quietly t x = is_service_and t (λ s. is_live_clean s x && not (has_open_run s)) x

-- what decides which of a place's ended tasks is removed
pub record Remains : Type 0 where
  pub id : ℕ
  pub service : ℕ
  pub place : Place
  pub iteration : ℕ
  pub past : Bool

abbrev pub remains : Task → Remains
remains x = record {
  id = x.id;
  service = x.service;
  place = x.place;
  iteration = x.iteration;
  past = is_past x;
}

-- what of their service decides that
pub record Bounds : Type 0 where
  pub id : ℕ
  pub job : Bool
  pub iteration : ℕ
  pub updated : Bool

abbrev pub bounds : Service → Bounds
bounds s = record { id = s.id; job = is_job s.spec.mode; iteration = s.iteration; updated = has_open_run s }

-- tests for these

abbrev pub stands_alike : Task → Task → Bool
stands_alike x y =
    x.service == y.service && same_place x.place y.place && x.iteration == y.iteration
    && same_bool (is_live x) (is_live y) && same_bool (is_kept x) (is_kept y)
    && same_bool (is_some x.closed) (is_some y.closed)

-- it may say no of two that run and failed alike
abbrev pub goes_alike : Task → Task → Bool
goes_alike x y =
    x.born == y.born && x.created == y.created && same_bool (is_below_running x) (is_below_running y)
    && same_bool (is_running x) (is_running y) && same_bool (counts_as_failure x.state) (counts_as_failure y.state)
    && (x.since == y.since || not (is_running y || counts_as_failure y.state))

abbrev pub remains_alike : Task → Task → Bool
remains_alike x y =
    x.service == y.service && same_place x.place y.place && x.iteration == y.iteration
    && same_bool (is_past x) (is_past y)

abbrev pub bounds_alike : Service → Service → Bool
bounds_alike r s =
    same_bool (is_job r.spec.mode) (is_job s.spec.mode) && r.iteration == s.iteration
    && same_bool (has_open_run r) (has_open_run s)
