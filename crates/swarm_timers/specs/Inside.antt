-- The two forms in which times are kept: by owner, and by time.
use Rattle.std.specs.Prelude.{ℕ, ◌≡◌, ◌==◌, ◌&&◌, ◌||◌, Bool, false, true, not, List, map, Option, None, Some}
use Rattle.std.specs.BTreeSet.{BTreeSet, contains}
use Rattle.std.specs.Ordering.{is_gt}
use Rattle.swarm_objects.specs.MapEntries.{entry_key}
use Rattle.swarm_objects.specs.Rows.{IsRising, is_some_and, row_at}
use Rattle.swarm_timers.specs.Timers.{Timer, time_cmp, timer_owner}

-- by owner

-- an owner and its time
abbrev pub timer_of : ℕ × ℕ → Timer
timer_of e = record { owner = e.0; at = e.1 }

abbrev pub timers_of : List (ℕ × ℕ) → List Timer
timers_of entries = map timer_of entries

-- by time

-- a time and its owner
abbrev pub timer_at : ℕ × ℕ → Timer
timer_at p = record { owner = p.1; at = p.0 }

abbrev pub has_time : BTreeSet (ℕ × ℕ) → ℕ → ℕ → Bool
has_time times at owner = contains time_cmp times (at, owner)

abbrev pub same_time : ℕ → ℕ → ℕ → ℕ → Bool
same_time at owner t o = at == t && owner == o

-- the former time of an owner that has another one now
abbrev pub is_former : ℕ → Option ℕ → ℕ → ℕ → ℕ → Bool
is_former owner None at t o = false
is_former owner (Some former) at t o = not (former == at) && same_time former owner t o

module _ (old new : BTreeSet (ℕ × ℕ)) where
  abbrev pub KeepsTimes : Type 0
  KeepsTimes = (t o : ℕ) → has_time new t o ≡ has_time old t o

module _ (at owner : ℕ) (old new : BTreeSet (ℕ × ℕ)) where
  abbrev pub AddsTime : Type 0
  AddsTime = (t o : ℕ) → has_time new t o ≡ (same_time at owner t o || has_time old t o)

  abbrev pub DropsTime : Type 0
  DropsTime = (t o : ℕ) → has_time new t o ≡ (not (same_time at owner t o) && has_time old t o)

-- of this owner the former time goes, unless it is the new one
abbrev pub LeavesFormer : ℕ → Option ℕ → ℕ → BTreeSet (ℕ × ℕ) → BTreeSet (ℕ × ℕ) → Type 0
LeavesFormer owner former at old new =
    (t o : ℕ) → has_time new t o ≡ (not (is_former owner former at t o) && has_time old t o)

-- there is none; or this one is there, and none is before it
abbrev pub IsFirstTime : BTreeSet (ℕ × ℕ) → Option (ℕ × ℕ) → Type 0
IsFirstTime times None = (t o : ℕ) → has_time times t o ≡ false
IsFirstTime times (Some first) =
    (has_time times first.0 first.1 ≡ true)
    × ((t o : ℕ) → has_time times t o ≡ true → is_gt (time_cmp first (t, o)) ≡ false)

-- both

abbrev pub is_at_time : ℕ → Timer → Bool
is_at_time t timer = timer.at == t

-- the owners rise, and both say the same
pub record AreSame (entries : List (ℕ × ℕ)) (times : BTreeSet (ℕ × ℕ)) : Type 0 where
  pub rises : IsRising entry_key entries
  pub same : (t o : ℕ) →
      has_time times t o ≡ is_some_and (is_at_time t) (row_at timer_owner o (timers_of entries))
