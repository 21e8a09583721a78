-- What tasks say of a service's places to an update.
use Rattle.std.specs.Prelude.{Bool, true, false, ◌≡◌, ◌+◌, ◌<◌, ◌&&◌, ◌||◌, List, if◌then◌else◌, get_or, set, fold, filter, length, max, nat_lt, not, replicate, ℕ}
use Rattle.std.specs.List.{list_any}
use Rattle.swarm_objects.specs.Loops.Update.{is_to_replace, is_to_swap}
use Rattle.swarm_objects.specs.Rows.{is_some_and}
use Rattle.swarm_objects.specs.Services.Runs.{is_flying}
use Rattle.swarm_objects.specs.Services.Words.{is_live_clean, is_live_dirty}
use Rattle.swarm_objects.specs.Tasks.Places.{closes_dirty, is_dirty_place, is_in_place, newest, place_at, place_number}
use Rattle.swarm_objects.specs.Tasks.Words.{is_live, is_of}
use Rattle.swarm_objects.specs.World.{Tables}
use Rattle.swarm_objects.specs.declared.services.Service.{Service}
use Rattle.swarm_objects.specs.declared.tasks.Task.{Task}
use Rattle.role_words.specs.Marks.{has_number, tasks_at}
use Rattle.role_words.specs.UpdateMarks.{runs_clean}
use Rattle.swarm_update.specs.declared.marks.Mark.{Mark}
use Rattle.swarm_update.specs.declared.marks.Places.{Places}
use Rattle.swarm_update.specs.declared.marks.Question.{Question}
use Rattle.swarm_update.specs.declared.marks.Question.TheVariants as question
use Rattle.swarm_update.specs.declared.marks.TheConstants.{UNMARKED, WIDTH}

-- what a place's tasks say of it
abbrev pub mark_of : Tables → Service → List Task → Mark
mark_of t s xs = record {
  has_live = list_any is_live xs;
  has_dirty = list_any (is_live_dirty s) xs;
  has_clean = list_any (is_live_clean s) xs;
  has_running = list_any (runs_clean s) xs;
  has_flying = list_any (is_flying t s) xs;
  is_closed = is_some_and (closes_dirty s) (newest xs);
}

-- the same with one task more
abbrev pub mark_with : Tables → Service → Task → Mark → Mark
mark_with t s x m = record {
  has_live = m.has_live || is_live x;
  has_dirty = m.has_dirty || is_live_dirty s x;
  has_clean = m.has_clean || is_live_clean s x;
  has_running = m.has_running || runs_clean s x;
  has_flying = m.has_flying || is_flying t s x;
  is_closed = closes_dirty s x;
}

-- the marks of the places, by their numbers
abbrev pub mark_at : Places → ℕ → Mark
mark_at v k = get_or v.marks k UNMARKED

-- no task was noted
abbrev pub blank : Places
blank = record { marks = replicate WIDTH UNMARKED; reach = 0; has_far = false }

-- the places with a task more, whose place has this number
abbrev pub noted_at : Tables → Service → Task → ℕ → Places → Places
noted_at t s x k v = record v {
  marks =
      if is_in_place s (place_at s.spec.mode k) x then set v.marks k (mark_with t s x (mark_at v k)) else v.marks;
  reach = max v.reach (k + 1);
}

-- the places with a task more
abbrev pub noted : Tables → Service → Places → Task → Places
noted t s v x =
    if nat_lt (place_number x.place) WIDTH then noted_at t s x (place_number x.place) v
    else record v { has_far = true }

-- the places with all tasks of the service
abbrev pub noted_all : Tables → Service → Places
noted_all t s = fold (noted t s) blank (filter (is_of s.id) t.tasks)

-- the marks are what the tasks say of the service's places
pub record ShowsPlaces (v : Places) (t : Tables) (s : Service) (tasks : List Task) : Type 0 where
  pub wide : length v.marks ≡ WIDTH
  pub marks : (k : ℕ) → k < WIDTH → mark_at v k ≡ mark_of t s (tasks_at s tasks k)
  pub reach : (k : ℕ) → has_number s tasks k ≡ true → k < WIDTH → k < v.reach
  pub far : v.has_far ≡ false → (k : ℕ) → has_number s tasks k ≡ true → k < WIDTH

-- Questions.

-- by the mark
abbrev pub answers : Question → Mark → Bool
answers question.Swap m = m.has_running && m.has_dirty
answers question.Replace m = (m.has_dirty || (not m.has_live && m.is_closed)) && not m.has_clean
answers question.Dirty m = m.has_dirty || (not m.has_live && m.is_closed)

-- of the service's place with this number
abbrev pub is_so : Tables → Service → Question → ℕ → Bool
is_so t s question.Swap k = is_to_swap t s k
is_so t s question.Replace k = is_to_replace t s k
is_so t s question.Dirty k = is_dirty_place t s k

-- no place before this number is as the question asks
abbrev pub NoneBefore : ℕ → Places → Question → Type 0
NoneBefore end v q = (k : ℕ) → k < end → k < WIDTH → answers q (mark_at v k) ≡ false

-- the place with this number is, and none before it
pub record IsFirst (v : Places) (q : Question) (k : ℕ) : Type 0 where
  pub within : k < WIDTH
  pub is_so : answers q (mark_at v k) ≡ true
  pub none_before : NoneBefore k v q
