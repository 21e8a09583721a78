-- What tasks say of a place to an update, and what a window shows of such places.
use Rattle.std.specs.Prelude.{Bool, ◌≡◌, ◌-◌, ◌+◌, ◌<◌, ◌&&◌, ◌||◌, List, filter, fold, if◌then◌else◌, get_or, set, length, nat_le, nat_lt, replicate, ℕ}
use Rattle.std.specs.List.{list_any}
use Rattle.swarm_objects.specs.Rows.{is_some_and}
use Rattle.swarm_objects.specs.Services.Runs.{is_flying}
use Rattle.swarm_objects.specs.Services.Words.{is_live_clean, is_live_dirty}
use Rattle.swarm_objects.specs.Tasks.Places.{closes_dirty, newest, place_number}
use Rattle.swarm_objects.specs.Tasks.Words.{is_live, is_of, is_running}
use Rattle.swarm_objects.specs.World.{Tables}
use Rattle.swarm_objects.specs.declared.services.Service.{Service}
use Rattle.swarm_objects.specs.declared.tasks.Task.{Task}
use Rattle.role_words.specs.Marks.{stands, tasks_at}
use Rattle.role_words.specs.declared.update_window.UpdateMark.{UpdateMark}
use Rattle.role_words.specs.declared.update_window.TheConstants.{UNMARKED}
use Rattle.role_words.specs.declared.update_window.UpdateWindow.{UpdateWindow}
use Rattle.role_words.specs.declared.window.TheConstants.{WIDTH}

-- the task is clean and live, and runs
abbrev pub runs_clean : Service → Task → Bool
runs_clean s x = is_live_clean s x && is_running x

-- what a place's tasks say of it
abbrev pub update_mark_of : Tables → Service → List Task → UpdateMark
update_mark_of t s xs = record {
  has_live = list_any is_live xs;
  has_dirty = list_any (is_live_dirty s) xs;
  has_clean = list_any (is_live_clean s) xs;
  has_running = list_any (runs_clean s) xs;
  has_flying = list_any (is_flying t s) xs;
  is_closed = is_some_and (closes_dirty s) (newest xs);
}

-- the same with one task more
abbrev pub update_mark_with : Tables → Service → Task → UpdateMark → UpdateMark
update_mark_with t s x m = record {
  has_live = m.has_live || is_live x;
  has_dirty = m.has_dirty || is_live_dirty s x;
  has_clean = m.has_clean || is_live_clean s x;
  has_running = m.has_running || runs_clean s x;
  has_flying = m.has_flying || is_flying t s x;
  is_closed = closes_dirty s x;
}

-- the marks of the places in it, from the first on
abbrev pub update_mark_at : UpdateWindow → ℕ → UpdateMark
update_mark_at w i = get_or w.marks i UNMARKED

-- the place with this number is in it
abbrev pub covers : UpdateWindow → ℕ → Bool
covers w k = nat_le w.first k && nat_lt (k - w.first) WIDTH

-- a window from this number on
abbrev pub unmarked : ℕ → UpdateWindow
unmarked first = record { first = first; marks = replicate WIDTH UNMARKED }

-- the window with a task more, that stands in the place at this index
abbrev pub marked_at : Tables → Service → Task → ℕ → UpdateWindow → UpdateWindow
marked_at t s x i w = record w { marks = set w.marks i (update_mark_with t s x (update_mark_at w i)) }

-- the window with a task more
abbrev pub marked : Tables → Service → UpdateWindow → Task → UpdateWindow
marked t s w x =
    if covers w (place_number x.place) && stands s x then marked_at t s x (place_number x.place - w.first) w else w

-- the window with all tasks of the service
abbrev pub update_window : Tables → Service → ℕ → UpdateWindow
update_window t s first = fold (marked t s) (unmarked first) (filter (is_of s.id) t.tasks)

-- the window shows what the tasks say of the service's places
pub record ShowsUpdates (w : UpdateWindow) (t : Tables) (s : Service) (tasks : List Task) : Type 0 where
  pub wide : length w.marks ≡ WIDTH
  pub marks : (i : ℕ) → i < WIDTH → update_mark_at w i ≡ update_mark_of t s (tasks_at s tasks (w.first + i))
