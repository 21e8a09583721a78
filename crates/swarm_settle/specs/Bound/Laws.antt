-- The control loops come to rest after one history, and before the settle calls in it.
use Rattle.std.specs.Prelude.{Bool, List, count_by, false, length, not, ◌*◌, ◌++◌, ◌≡◌, ◌≤◌, ℕ}
use Rattle.swarm_model.specs.Follows.{AreDuties, AreOthers, IsSettleLine}
use Rattle.swarm_model.specs.History.{IsLegal, replay, replay_from}
use Rattle.swarm_model.specs.Laws.Size.{is_silent_duty, size}
use Rattle.swarm_model.specs.Script.{is_busy}
use Rattle.swarm_objects.specs.World.{World}
use Rattle.swarm_objects.specs.declared.calls.Entry.{Entry}
use Rattle.swarm_objects.specs.declared.calls.What.TheVariants as what
use Rattle.swarm_objects.specs.declared.calls.What.{What}

-- no more duties follow at one time without a call
abbrev pub most_duties : World → ℕ
most_duties w = 2000 * size w * size w

-- a duty other than explain and note
abbrev pub is_loud : What → Bool
is_loud (what.Call c) = false
is_loud (what.Duty d) = not (is_silent_duty d)

-- whatever duties follow the history, of whichever callers: no more than these, and at most 400 * M other than explain
-- and note
abbrev pub ComesToRest : List Entry → Type 0
ComesToRest h =
    (es : List Entry) → AreDuties es → IsLegal (h ++ es)
    → (length es ≤ most_duties (replay h)) × (count_by (λ e. is_loud e.what) es ≤ 400 * size (replay h))

-- The call of a settle line finds a world that isn't busy, and so isn't answered `unsettled`, where the line's budget
-- is enough for the world after caller 0's last entry before the line; others' duties since then count in the same
-- bound.
abbrev pub SettlesInTime : List Entry → Type 0
SettlesInTime h =
    (before others line rest : List Entry) (budget : ℕ) → h ≡ before ++ (others ++ (line ++ rest)) → AreOthers others
    → (is : IsSettleLine (replay_from (replay before) others) budget line) → most_duties (replay before) ≤ budget
    → is_busy (replay_from (replay_from (replay before) others) is.duties) ≡ false

abbrev pub SettleLinesLaw : Type 0
SettleLinesLaw = (h : List Entry) → IsLegal h → SettlesInTime h
