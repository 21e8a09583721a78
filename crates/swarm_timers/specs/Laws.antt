-- What the next time and the due owner are, said of each timer.
use Rattle.std.specs.Prelude.{ℕ, List, [], Option, Some, None, ◌≡◌, ◌<◌, ◌≤◌}
use Rattle.swarm_objects.specs.Rows.{Has}
use Rattle.swarm_timers.specs.Timers.{Timer, due_owner, next_time}

-- it is there; no time is less, and of those at its time no owner is
pub record IsFirstTimer (timers : List Timer) (first : Timer) : Type 0 where
  pub there : Has timers first
  pub time : (t : Timer) → Has timers t → first.at ≤ t.at
  pub owner : (t : Timer) → Has timers t → t.at ≡ first.at → first.owner ≤ t.owner

-- no owner has a time; or the first timer has this one
abbrev pub IsNextTime : List Timer → Option ℕ → Type 0
IsNextTime timers None = timers ≡ []
IsNextTime timers (Some at) = (owner : ℕ) × IsFirstTimer timers (record { owner = owner; at = at })

-- every time is after now; or the first timer has this owner, and its time is at most now
abbrev pub IsDueOwner : ℕ → List Timer → Option ℕ → Type 0
IsDueOwner now timers None = (t : Timer) → Has timers t → now < t.at
IsDueOwner now timers (Some owner) = (at : ℕ) × (at ≤ now) × IsFirstTimer timers (record { owner = owner; at = at })

abbrev pub NextLaw : Type 0
NextLaw = (timers : List Timer) → IsNextTime timers (next_time timers)

abbrev pub DueLaw : Type 0
DueLaw = (now : ℕ) (timers : List Timer) → IsDueOwner now timers (due_owner now timers)
