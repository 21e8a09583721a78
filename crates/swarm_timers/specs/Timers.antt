-- Owners with times, by rising owner.
use Rattle.std.specs.Prelude.{ℕ, ◌≡◌, Bool, List, [], ◌∷◌, Option, None, filter, nat_le, true, ⊤}
use Rattle.std.specs.Option.{option_map}
use Rattle.std.specs.Ordering.{is_lt, nat_cmp, ordering_then}
use Rattle.std.specs.declared.cmp.Ordering.{Ordering}
use Rattle.swarm_objects.specs.Rows.{Has, drop_row, least_by, with_row}

-- an owner with its time
pub record Timer : Type 0 where
  pub owner : ℕ
  pub at : ℕ

abbrev pub timer_owner : Timer → ℕ
timer_owner t = t.owner

abbrev pub timer_time : Timer → ℕ
timer_time t = t.at

-- the time of the owner is this one, and others keep theirs
abbrev pub with_time : ℕ → ℕ → List Timer → List Timer
with_time owner at timers = with_row timer_owner (record { owner = owner; at = at }) timers

-- the owner has no time, and others keep theirs
abbrev pub without_time : ℕ → List Timer → List Timer
without_time owner timers = drop_row timer_owner owner timers

-- by time, and at one time by owner
abbrev pub timer_cmp : Timer → Timer → Ordering
timer_cmp a b = ordering_then (nat_cmp a.at b.at) (nat_cmp a.owner b.owner)

-- the one with the least time; of those with one time, the one with the least owner
abbrev pub first_timer : List Timer → Option Timer
first_timer timers = least_by timer_cmp None timers

-- the least time
abbrev pub next_time : List Timer → Option ℕ
next_time timers = option_map timer_time (first_timer timers)

-- its time is at most now
abbrev pub has_come : ℕ → Timer → Bool
has_come now t = nat_le t.at now

-- of those whose time has come, the owner of the first
abbrev pub due_owner : ℕ → List Timer → Option ℕ
due_owner now timers = option_map timer_owner (first_timer (filter (has_come now) timers))

-- times with their owners, in the order of a walk

abbrev pub time_cmp : ℕ × ℕ → ℕ × ℕ → Ordering
time_cmp x y = ordering_then (nat_cmp x.0 y.0) (nat_cmp x.1 y.1)

-- each comes before all that follow it: the times rise, and at one time the owners do
abbrev pub AreInOrder : List (ℕ × ℕ) → Type 0
AreInOrder [] = ⊤
AreInOrder (p ∷ ps) = ((q : ℕ × ℕ) → Has ps q → is_lt (time_cmp p q) ≡ true) × AreInOrder ps
